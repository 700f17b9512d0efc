-- What a client reads of a state and of differences.
use Rattle.std.proofs.Common.{◌≡◌, ℕ, ◌<◌, Bool, ◌||◌, not, List, [], ◌∷◌, ◌++◌, map, sym, refl, ap, ◌∙◌}
use Rattle.std.specs.Prelude.{◌==◌, ◌^◌, IsPermutation}
use Rattle.std.specs.Fmt.{decimal}
use Rattle.std.specs.List.{filter, list_any}
use Rattle.std.specs.Str.{bytes_eq}
use Rattle.std.proofs.lemmas.List.{map-append}
use Rattle.rt_value.proofs.Plain.{AllOf, all_append, all_filter, all_weaker, filter_alike, filter_map_swap}
use Rattle.rt_value.proofs.Moves.{Moves, then_to, moves_same, permuted}
use Rattle.rt_presence.specs.Trees.{Held, metas_tree}
use Rattle.rt_presence.specs.Reading.{metas_in, reference_of, is_among}
use Rattle.rt_presence.proofs.ReadAgain.{read_again, reference_is, same_text, difference_read}
use Rattle.rt_entry.specs.declared.story.Channel.{Channel}
use Rattle.rt_entry.specs.declared.story.Track.{Track}
use Rattle.rt_entry.specs.Messages.{shown_meta, presence_state, presence_diff}
use Rattle.rt_entry.specs.Presence.{after_message, client_view}
use Rattle.rt_laws.specs.Views.{Difference, leaves_in, after_differences, Fit, AllFit}
use Rattle.rt_entry.proofs.Sound.{any_map}

any_alike : {A : Type 0} (p q : A → Bool) (xs : List A) → AllOf (λ x. p x ≡ q x) xs → list_any p xs ≡ list_any q xs
any_alike p q [] e = refl
any_alike p q (x ∷ xs) e = ap (λ b. b || list_any p xs) e.0 ∙ ap (λ b. q x || b) (any_alike p q xs e.1)

-- references

own_reference : (t : Track) → reference_of (shown_meta t) ≡ decimal t.reference
own_reference t = reference_is t.key t.reference t.tree

fit_all : (ts : List Track) → Fit ts → AllOf (λ (t : Track). t.reference < 2 ^ 64) ts
fit_all [] h = tt
fit_all (t ∷ ts) h = (h.0, fit_all ts h.1)

-- who leaves, as a client reads it
reads_leave : (leaves : List Track) (t : Track) → Fit leaves → t.reference < 2 ^ 64
    → is_among (map shown_meta leaves) (shown_meta t) ≡ leaves_in leaves t
reads_leave leaves t f lt =
    let p : Held → Bool = λ g. bytes_eq (reference_of g) (reference_of (shown_meta t)) in
    any_map p shown_meta leaves
    ∙ any_alike (λ (u : Track). p (shown_meta u)) (λ (u : Track). u.reference == t.reference) leaves
    (all_weaker (λ (u : Track). u.reference < 2 ^ 64) (λ (u : Track). p (shown_meta u) ≡ (u.reference == t.reference))
    leaves
    (λ u a. ap (λ (x : List ℕ). bytes_eq x (reference_of (shown_meta t))) (own_reference u)
    ∙ ap (bytes_eq (decimal u.reference)) (own_reference t)
    ∙ same_text u.reference t.reference a lt) (fit_all leaves f))

-- one difference
pub reads_difference : (ch : Channel) (held : List Held) (tracks joins leaves : List Track) → Fit leaves
    → AllOf (λ (t : Track). t.reference < 2 ^ 64) (tracks ++ joins) → Moves held (map shown_meta tracks)
    → Moves (after_message held (presence_diff ch joins leaves))
    (map shown_meta (filter (λ (t : Track). not (leaves_in leaves t)) (tracks ++ joins)))
reads_difference ch held tracks joins leaves f all m =
    let stays : Track → Bool = λ t. not (leaves_in leaves t) in
    let kept : Held → Bool = λ h. not (is_among (map shown_meta leaves) h) in
    let seen = map shown_meta tracks ++ map shown_meta joins in
    let is : filter kept seen ≡ map shown_meta (filter stays (tracks ++ joins)) =
    ap (filter kept) (sym (map-append shown_meta tracks joins))
    ∙ filter_map_swap kept shown_meta (tracks ++ joins)
    ∙ ap (map shown_meta) (filter_alike (λ (t : Track). kept (shown_meta t)) stays (tracks ++ joins)
    (all_weaker (λ (t : Track). t.reference < 2 ^ 64) (λ (t : Track). kept (shown_meta t) ≡ stays t) (tracks ++ joins)
    (λ t a. ap not (reads_leave leaves t f a)) all)) in
    then_to (after_message held (presence_diff ch joins leaves)) (filter kept seen)
    (map shown_meta (filter stays (tracks ++ joins)))
    (difference_read held (map shown_meta tracks) (map shown_meta joins) (map shown_meta leaves) m)
    (moves_same (filter kept seen) (map shown_meta (filter stays (tracks ++ joins))) is)

reads_all : (ch : Channel) (held : List Held) (tracks : List Track) (ds : List Difference)
    → AllOf (λ (t : Track). t.reference < 2 ^ 64) tracks
    → AllFit ds → Moves held (map shown_meta tracks)
    → Moves (client_view held (map (λ (d : Difference). presence_diff ch d.joins d.leaves) ds))
    (map shown_meta (after_differences tracks ds))
reads_all ch held tracks [] a f m = m
reads_all ch held tracks (d ∷ ds) a f m =
    let all = all_append (λ (t : Track). t.reference < 2 ^ 64) tracks d.joins a (fit_all d.joins f.0) in
    let next = filter (λ (t : Track). not (leaves_in d.leaves t)) (tracks ++ d.joins) in
    reads_all ch (after_message held (presence_diff ch d.joins d.leaves)) next ds
    (all_filter (λ (t : Track). t.reference < 2 ^ 64) (λ (t : Track). not (leaves_in d.leaves t))
    (tracks ++ d.joins) all) f.2
    (reads_difference ch held tracks d.joins d.leaves f.1 all m)

pub states_read : (ch : Channel) (tracks : List Track) (ds : List Difference) (held : List Held) → Fit tracks
    → AllFit ds
    → IsPermutation (client_view held
    (presence_state ch tracks ∷ map (λ (d : Difference). presence_diff ch d.joins d.leaves) ds))
    (map shown_meta (after_differences tracks ds))
states_read ch tracks ds held f all =
    permuted (client_view held (presence_state ch tracks
    ∷ map (λ (d : Difference). presence_diff ch d.joins d.leaves) ds))
    (map shown_meta (after_differences tracks ds))
    (reads_all ch (metas_in (metas_tree (map shown_meta tracks))) tracks ds (fit_all tracks f) all
    (read_again (map shown_meta tracks)))
