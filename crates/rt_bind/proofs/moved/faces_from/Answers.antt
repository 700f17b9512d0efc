use Rattle.std.proofs.Common.{◌≡◌, List, Option, IfOk, ap, sym, subst, ◌∙◌}
use Rattle.rt_json.specs.declared.tree.Json.{Json}
use Rattle.rt_wal.specs.declared.records.Field.{Field}
use Rattle.rt_catalog.specs.declared.catalog.Column.{Column}
use Rattle.rt_bind.specs.Straight.{are_straight, faces_in_turn}
use Rattle.rt_bind.proofs.Straight.{straight_faces}
use Rattle.rt_bind.proofs.moved.faces_from.Goals as goal

pub returns-then-are_straight : goal.returns-then-are_straight
returns-then-are_straight c =
    let columns = c.args.table.now.columns in
    let first = c.args.first in
    let straight =
    ap (λ (l : List Column). are_straight l first) (sym c.get-columns.ensures)
    ∙ ap (λ (l : List Field). are_straight c.get-columns.result.now l) (sym c.get.ensures)
    ∙ sym c.are_straight.ensures ∙ c.if-are_straight.true in
    let same =
    ap (λ (l : List Column). faces_in_turn l first) c.get-columns.ensures
    ∙ straight_faces columns first c.args.second.now straight c.requires.first in
    subst (λ (x : List (Option Json)). IfOk c.faces_in_turn.result (λ faces. faces ≡ x)) same c.faces_in_turn.ensures
