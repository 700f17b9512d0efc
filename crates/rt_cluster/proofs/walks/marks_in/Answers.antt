use Rattle.std.proofs.Common.{◌++◌, ◌∷◌, [], List, map, sym, ap, ◌∙◌, append_assoc}
use Rattle.rt_json.specs.declared.tree.Json.{Json}
use Rattle.rt_ptree.specs.Walk.{entries_from}
use Rattle.rt_cluster.specs.declared.dots.Mark.{Mark}
use Rattle.rt_cluster.specs.declared.places.Place.{Place}
use Rattle.rt_cluster.specs.Index.{place_cmp, mark_of}
use Rattle.rt_cluster.proofs.Fronts.{all_places}
use Rattle.rt_cluster.proofs.walks.marks_in.Goals as goal

pub loop-place-init : goal.loop-place-init
loop-place-init c =
    ap (λ (ms : List Mark). ms ++ map mark_of c.into_iter-place-iterator.result) c.new-out.ensures.items
    ∙ ap (map mark_of) (c.into_iter-place-iterator.ensures.into_iter_gives ∙ c.entries_from-place-items.ensures
    ∙ ap (λ (p : Place). entries_from place_cmp c.args.marks.now p) c.in_ok-least.ensures
    ∙ all_places c.args.marks.now)

pub loop-place-preserved : goal.loop-place-preserved
loop-place-preserved c =
    let here : Place × Json = (c.in-Some.place.now, c.in-Some.tree.now) in
    let out = c.loop-place.out.items in
    let behind = c.next.new.self in
    ap (λ (ms : List Mark). ms ++ map mark_of behind)
    (c.in_ok-push.ensures.items ∙ ap (λ (m : Mark). out ++ m ∷ []) c.in_ok-mark.ensures)
    ∙ append_assoc out (mark_of here ∷ []) (map mark_of behind)
    ∙ ap (λ (es : List (Place × Json)). out ++ map mark_of es) (sym c.in-Some.ensures.steps)
    ∙ c.loop-place.invariant
