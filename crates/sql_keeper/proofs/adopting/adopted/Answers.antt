use Rattle.std.proofs.Common.{◌∙◌, inl, inr, ap, subst, sym, true, false}
use Rattle.sqlite.specs.Effect.{Database}
use Rattle.sqlite.specs.Held.{state}
use Rattle.sqlite_catalog.specs.Listing.{IsSound}
use Rattle.keeper_core.specs.declared.stored.Stored.TheVariants.{Current}
use Rattle.sql_keeper.specs.Kept.{ListsNoTable}
use Rattle.sql_keeper.specs.Rows.{stored}
use Rattle.sql_keeper.proofs.Adoption.{known_database, lists_none}
use Rattle.sql_keeper.proofs.Refused.{whenever_err}
use Rattle.sql_keeper.proofs.Stores.{stored_current}
use Rattle.sql_keeper.proofs.adopting.adopted.Goals as goal

pub returns-then-is_blank-clause-adopted : goal.returns-then-is_blank-clause-adopted
returns-then-is_blank-clause-adopted g c clean =
    let made = c.in_ok-make_tables.ensures.made clean in
    let was = c.in_ok-make_tables.ensures.clean clean in
    let first = c.in_ok-conn.ensures in
    let opens = first.opens was in
    let none = lists_none (state g.S.Store c.in_ok-conn.conn).now (sym c.schema.ensures.value ∙ c.is_blank.ensures.is c.if-is_blank.true) (opens.1 opens.0.is_open).0 in
    record {
      is_open = made.is_open;
      idle = c.in_ok-make_tables.ensures.idle;
      database = made.database;
      settled = sym made.committed;
      tables = inl (subst ListsNoTable (first.same was) none, ap (λ (d : Database). stored d.trees) made.committed ∙ stored_current _ made.database ∙ ap Current made.contents);
    }

pub returns-then-is_current-clause-adopted : goal.returns-then-is_current-clause-adopted
returns-then-is_current-clause-adopted g c clean =
    let s = state g.S.Store c.in_ok-conn.conn in
    let first = c.in_ok-conn.ensures in
    let opens = first.opens clean in
    let is = sym c.schema-2.ensures.value ∙ c.is_current.ensures.is c.if-is_current.true in
    record {
      is_open = opens.0.is_open;
      idle = first.idle;
      database = known_database false s.now is (opens.1 opens.0.is_open).0 (first.keyed clean);
      settled = opens.0.clean;
      tables = inr (ap (λ (d : Database). stored d.trees) (sym opens.0.clean) ∙ ap stored (first.same clean));
    }

pub returns-then-is_first-clause-adopted : goal.returns-then-is_first-clause-adopted
returns-then-is_first-clause-adopted g c clean =
    let s = state g.S.Store c.in_ok-conn.conn in
    let first = c.in_ok-conn.ensures in
    let opens = first.opens clean in
    let is = sym c.schema-3.ensures.value ∙ c.is_first.ensures.is c.if-is_first.true in
    record {
      is_open = opens.0.is_open;
      idle = first.idle;
      database = known_database true s.now is (opens.1 opens.0.is_open).0 (first.keyed clean);
      settled = opens.0.clean;
      tables = inr (ap (λ (d : Database). stored d.trees) (sym opens.0.clean) ∙ ap stored (first.same clean));
    }

pub returns-in_err-make_tables-clause-cause : goal.returns-in_err-make_tables-clause-cause
returns-in_err-make_tables-clause-cause g c =
    let first = c.in_ok-conn.ensures in
    let s = state g.S.Store c.in_ok-conn.conn in
    whenever_err _ c.from_residual-in_err-make_tables.result (λ e. (
      c.in_ok-conn.conn.store,
      λ clean.
          let opens = first.opens clean in
          let none = lists_none s.now (sym c.schema.ensures.value ∙ c.is_blank.ensures.is c.if-is_blank.true) (opens.1 opens.0.is_open).0 in
          inr (inr (inr (inr (subst ListsNoTable (first.same clean) none)))),
    ))

pub returns-clause-cause : goal.returns-clause-cause
returns-clause-cause g c =
    let first = c.in_ok-conn.ensures in
    let s = state g.S.Store c.in_ok-conn.conn in (
      c.in_ok-conn.conn.store,
      λ clean.
          let opens = first.opens clean in
          inr (inr (inr (inl (inr (record {
            schema = s.now.schema;
            sound = subst (IsSound s.now.schema) (first.same clean) (opens.1 opens.0.is_open).0;
            is_not_blank = λ is. let e = c.is_blank.ensures.exact (c.schema.ensures.value ∙ is) in let f = c.if-is_blank.false in cc;
            is_not_first = λ is. let e = c.is_first.ensures.exact (c.schema-3.ensures.value ∙ is) in let f = c.if-is_first.false in cc;
            is_not_current = λ is. let e = c.is_current.ensures.exact (c.schema-2.ensures.value ∙ is) in let f = c.if-is_current.false in cc;
          }))))),
    )
