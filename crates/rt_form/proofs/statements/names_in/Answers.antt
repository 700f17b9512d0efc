use Rattle.std.proofs.Common.{[], ◌∙◌}
use Rattle.rt_form.proofs.Equal.{empty_of, not_empty}
use Rattle.rt_form.proofs.Once.{all_of, grant_of, grant_once, role_once, table_once}
use Rattle.rt_form.proofs.statements.names_in.Goals as goal

pub returns-in_err-table : goal.returns-in_err-table
returns-in_err-table c = rw c.from_residual.ensures
    (λ m a s b t k r h. c.in_err-table.ensures m a s b t k _ h.table_is h.columns_are h.are)

pub returns-in_err-role : goal.returns-in_err-role
returns-in_err-role c = rw c.from_residual-in_err-role.ensures (λ m a s b t k r h.
    let one = table_once c.in_ok-table.ensures.2 h.are in c.in_err-role.ensures r _ h.role_is one.6)

pub returns-in_err-rest : goal.returns-in_err-rest
returns-in_err-rest c = rw c.from_residual-in_err-rest.ensures (λ m a s b t k r h.
    let one = table_once c.in_ok-table.ensures.2 h.are in
    let two = role_once c.in_ok-role.ensures.1 one.6 in
    c.in_err-rest.ensures [] (grant_of (c.get.ensures.bytes ∙ one.0) (c.get-2.ensures.bytes ∙ two.0) two.1))

pub returns-else-is_empty : goal.returns-else-is_empty
returns-else-is_empty c = λ m a s b t k r h.
    let one = table_once c.in_ok-table.ensures.2 h.are in
    let two = role_once c.in_ok-role.ensures.1 one.6 in
    not_empty _ _ c.is_empty.ensures c.if-is_empty.false (grant_once c.in_ok-rest.ensures two.1)

pub returns-then-is_empty : goal.returns-then-is_empty
returns-then-is_empty c = record {
  are = all_of _ _ _ _ _ _ _ _ _ _ c.in_ok-table.ensures.2 c.in_ok-role.ensures.1 c.in_ok-rest.ensures
      c.get.ensures.bytes
      c.get-2.ensures.bytes (empty_of _ _ c.is_empty.ensures c.if-is_empty.true);
  table_is = c.in_ok-table.ensures.0;
  columns_are = c.in_ok-table.ensures.1;
  role_is = c.in_ok-role.ensures.0;
}
