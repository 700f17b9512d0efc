use Rattle.std.proofs.Common.{ℕ, List, ◌≡◌, IfOk, subst}
use Rattle.rt_phx.proofs.Pieces.{change_list_out}
use Rattle.rt_phx.proofs.splicing.change_list.Goals as goal

pub returns : goal.returns
returns c =
    subst (λ (xs : List ℕ). IfOk c.with_str-3.result (λ all. all.items ≡ xs))
    (change_list_out c.args.join_ref.now c.args.topic.now c.args.ids.now _ _ _ _ _ _ _ _ c.new-out.ensures.items
    c.in_ok-out.ensures.spelling c.in_ok-out-2.ensures.spelling c.in_ok-out-3.ensures.spelling c.in_ok-out-4.ensures
    c.in_ok-out-5.ensures.spelling c.in_ok-out-6.ensures)
    c.with_str-3.ensures.spelling
