use Rattle.std.proofs.Common.{◌≡◌, ◌∙◌, Bor, Option, option_map, unwrap_or, ap, sym, arith}
use Rattle.sqlite_sql.specs.declared.ops.BinaryOp.{BinaryOp}
use Rattle.sqlite_value.specs.declared.value.Value.TheVariants.{Null}
use Rattle.sqlite_schema.specs.declared.code.Op.{Op}
use Rattle.sqlite_schema.specs.declared.code.Op.TheVariants.{Binary, Literal}
use Rattle.sql_keeper.specs.inside.Nodes.{op_at}
use Rattle.sql_keeper.proofs.MetaCheck.{made, parts}
use Rattle.sql_keeper.proofs.known.is_meta_term.Goals as goal
use Rattle.sql_keeper.proofs.known.is_meta_term.Goals.{then-is_equality, else-is_equality}

pub returns-then-is_id : goal.returns-then-is_id
returns-then-is_id c =
    let it = c.in-Some-Binary in
    let found = c.get.ensures.lookup.4 (omega arith) (Literal Null) in
    let node : op_at c.args.nodes.now c.args.root ≡ Binary it.op it.id it.number = sym found ∙ ap (λ (r : Option (Bor Op)). unwrap_or (option_map (λ x. x.now) r) (Literal Null)) it.is ∙ it.field-0-is in
    let joined = c.if-is_id.true in
    elim c.if-is_equality.branch [
      | then-is_equality w ↦ (
        λ yes. made c.args.nodes.now c.args.root it.id it.number
            (node ∙ ap (λ (o : BinaryOp). Binary o it.id it.number) (c.is_equality.ensures.is w.if-is_equality.true)) (w.is_id.ensures.0 (sym w.value-is ∙ joined)) (c.is_one.ensures.0 yes),
        λ h. c.is_one.ensures.1 (parts c.args.nodes.now c.args.root it.op it.id it.number node h).2,
      )
      | else-is_equality w ↦ absurd (let e = w.value-is in let f = w.if-is_equality.false in cc)
    ]

pub returns-else-is_id : goal.returns-else-is_id
returns-else-is_id c =
    let it = c.in-Some-Binary in
    let found = c.get.ensures.lookup.4 (omega arith) (Literal Null) in
    let node : op_at c.args.nodes.now c.args.root ≡ Binary it.op it.id it.number = sym found ∙ ap (λ (r : Option (Bor Op)). unwrap_or (option_map (λ x. x.now) r) (Literal Null)) it.is ∙ it.field-0-is in
    let joined = c.if-is_id.false in (
      λ yes. absurd (cc),
      λ h.
          let p = parts c.args.nodes.now c.args.root it.op it.id it.number node h in
          elim c.if-is_equality.branch [
            | then-is_equality w ↦ w.value-is ∙ w.is_id.ensures.1 p.1
            | else-is_equality w ↦ w.value-is ∙ c.is_equality.ensures.exact p.0
          ],
    )
