-- The nodes of the term `id = 1`.
use Rattle.std.proofs.Common.{◌≡◌, ℕ, zero, suc, pos, List, [], ◌∷◌, length, refl, ap, ap₂, ◌∙◌}
use Rattle.sqlite_value.specs.declared.value.Value.TheVariants.{Null, Int}
use Rattle.sqlite_value.specs.declared.keys.Collation.TheVariants.{Binary}
use Rattle.sqlite_sql.specs.declared.ops.BinaryOp.{BinaryOp}
use Rattle.sqlite_sql.specs.declared.ops.BinaryOp.TheVariants.{Compare}
use Rattle.sqlite_sql.specs.declared.ops.CompareOp.TheVariants.{Eq}
use Rattle.sqlite_sql.specs.Term.{Term, lit, col, op1, op2, case}
use Rattle.sqlite_schema.specs.declared.code.Op.{Op}
use Rattle.sqlite_schema.specs.declared.code.Op.TheVariants as op
use Rattle.sqlite_schema.specs.Code.{op_term, term_to, term_in}
use Rattle.sql_keeper.specs.inside.Nodes.{op_at}
use Rattle.sql_keeper.specs.inside.Schemas.{id_is_one}

-- the nodes that make it
pub record IsMetaTerm (ops : List Op) (root : ℕ) : Type 0 where
  pub id : ℕ
  pub number : ℕ
  pub test : op_at ops root ≡ op.Binary (Compare Eq Binary) id number
  pub reads_id : op_at ops id ≡ op.Column 1 0
  pub is_one : op_at ops number ≡ op.Literal (Int (pos 1))

is_column : (below : ℕ → Term) (it : Op) → op_term below it ≡ col 1 0 → it ≡ op.Column 1 0
is_column below (op.Literal v) h = absurd (cc)
is_column below (op.Column s i) h = cc
is_column below (op.Unary o a) h = absurd (cc)
is_column below (op.Binary o a b) h = absurd (cc)
is_column below (op.Case t a b) h = absurd (cc)

is_literal : (below : ℕ → Term) (it : Op) → op_term below it ≡ lit (Int (pos 1)) → it ≡ op.Literal (Int (pos 1))
is_literal below (op.Literal v) h = cc
is_literal below (op.Column s i) h = absurd (cc)
is_literal below (op.Unary o a) h = absurd (cc)
is_literal below (op.Binary o a b) h = absurd (cc)
is_literal below (op.Case t a b) h = absurd (cc)

-- two subterms, each of a node
split : (ops : List Op) (depth root : ℕ) (it : Op) → op_at ops root ≡ it → op_term (term_to ops (suc depth)) it ≡ id_is_one → IsMetaTerm ops root
split ops depth root (op.Literal v) is h = absurd (cc)
split ops depth root (op.Column s i) is h = absurd (cc)
split ops depth root (op.Unary o a) is h = absurd (cc)
split ops depth root (op.Case t a b) is h = absurd (cc)
split ops depth root (op.Binary o a b) is h =
    let first : term_to ops (suc depth) a ≡ col 1 0 = cc in
    let second : term_to ops (suc depth) b ≡ lit (Int (pos 1)) = cc in
    let how : o ≡ Compare Eq Binary = cc in
    record {
      id = a;
      number = b;
      test = cc;
      reads_id = is_column (term_to ops depth) (op_at ops a) first;
      is_one = is_literal (term_to ops depth) (op_at ops b) second;
    }

shallow : (it : Op) → op_term (λ _. lit Null) it ≡ id_is_one → ⊥
shallow (op.Literal v) h = cc
shallow (op.Column s i) h = cc
shallow (op.Unary o a) h = cc
shallow (op.Binary o a b) h = cc
shallow (op.Case t a b) h = cc

pub has_nodes : (ops : List Op) (root : ℕ) → term_in ops root ≡ id_is_one → IsMetaTerm ops root
has_nodes [] root h = absurd (cc)
has_nodes (x ∷ []) root h = absurd (shallow (op_at (x ∷ []) root) h)
has_nodes (x ∷ y ∷ more) root h = split (x ∷ y ∷ more) _ root (op_at (x ∷ y ∷ more) root) refl h

-- what a node of two subterms has to be
pub parts : (ops : List Op) (root : ℕ) (o : BinaryOp) (a b : ℕ) → op_at ops root ≡ op.Binary o a b → term_in ops root ≡ id_is_one
    → (o ≡ Compare Eq Binary) × (op_at ops a ≡ op.Column 1 0) × (op_at ops b ≡ op.Literal (Int (pos 1)))
parts ops root o a b is h =
    let m = has_nodes ops root h in
    let test = m.test in
    let id = m.reads_id in
    let number = m.is_one in
    (cc, cc, cc)

pub made : (ops : List Op) (root a b : ℕ) → op_at ops root ≡ op.Binary (Compare Eq Binary) a b → op_at ops a ≡ op.Column 1 0 → op_at ops b ≡ op.Literal (Int (pos 1))
    → term_in ops root ≡ id_is_one
made [] root a b test id number = absurd (cc)
made (x ∷ []) zero zero b test id number = absurd (cc)
made (x ∷ []) zero (suc a) b test id number = absurd (cc)
made (x ∷ []) (suc root) a b test id number = absurd (cc)
made (x ∷ y ∷ more) root a b test id number = ap (op_term (term_to (x ∷ y ∷ more) (suc (length more)))) test ∙ ap₂ (op2 (Compare Eq Binary)) (ap (op_term (term_to (x ∷ y ∷ more) (length more))) id) (ap (op_term (term_to (x ∷ y ∷ more) (length more))) number)
