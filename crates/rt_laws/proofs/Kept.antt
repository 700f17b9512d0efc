-- What answers make of what a worker keeps is what stands behind the items that they are spelled in.
use Rattle.std.proofs.Common.{◌≡◌, ℕ, zero, suc, ◌+◌, ◌<◌, ◌≤◌, Bool, true, false, not, cond, List, [], ◌∷◌, ◌++◌}
use Rattle.std.proofs.Common.{map, length}
use Rattle.std.proofs.Common.{drop, refl, sym, ap, ◌∙◌, arith, append_assoc, append-nil}
use Rattle.std.specs.List.{filter}
use Rattle.rt_phx.specs.declared.message.Version.{Version}
use Rattle.rt_phx.specs.Frame.{spelled}
use Rattle.rt_entry.specs.declared.answer.Answer.{Answer}
use Rattle.rt_entry.specs.declared.answer.Answer.TheVariants as a
use Rattle.rt_entry.specs.declared.answer.Item.{Item}
use Rattle.rt_entry.specs.declared.answer.Item.TheVariants.{Message, End}
use Rattle.rt_entry.specs.Answers.{spell}
use Rattle.rt_entry.specs.Spelling.{version_after}
use Rattle.rt_entry.specs.Kept.{keep, kept_after, item_more, opening_behind}
use Rattle.rt_entry.specs.Machine.{Cut, Placed, placed_from, opening_after, is_cut, is_uncut}

abbrev pub item_of : Placed → Item
item_of p = p.item

-- the items of these that are pending
abbrev pub uncut_items : List Cut → ℕ → ℕ → List Item → List Item
uncut_items cuts n o items = map item_of (filter (is_uncut cuts) (placed_from n o items))

-- no later opening is cut
abbrev pub NoneLater : List Cut → ℕ → Type 0
NoneLater cuts o = (m : ℕ) → o < m → is_cut cuts m ≡ false

one_item : (b : Bool) (x : Item) (p : Placed) (items : List Item) (rest : List Placed) → p.item ≡ x
    → item_more b items x ++ map item_of rest ≡ items ++ map item_of (cond (not b) (p ∷ rest) rest)
one_item true x p items rest e = refl
one_item false x p items rest e =
    append_assoc items (x ∷ []) (map item_of rest) ∙ ap (λ y. items ++ y ∷ map item_of rest) (sym e)

same_kept : (v : Version) (b : Bool) (xs ys : List Item) → xs ≡ ys → keep v b xs ≡ keep v b ys
same_kept v b xs ys e = ap (keep v b) e

pub kept_is : (cuts : List Cut) (answers : List Answer) (v : Version) (b : Bool) (items : List Item) (n o : ℕ)
    → is_cut cuts o ≡ b → NoneLater cuts o
    → kept_after (keep v b items) answers
    ≡ keep (version_after v answers) (is_cut cuts (opening_behind o (spell v answers)))
    (items ++ uncut_items cuts n o (spell v answers))
kept_is cuts [] v b items n o e later =
    ap (λ t. keep v t items) (sym e) ∙ same_kept v (is_cut cuts o) items (items ++ []) (sym (append-nil items))
kept_is cuts (a.Opened w ∷ rest) v b items n o e later = kept_is cuts rest w b items n o e later
kept_is cuts (a.Says m ∷ rest) v b items n o e later =
    let x = Message (spelled v m) in
    let p : Placed = record { place = n; opening = o; item = x } in
    let more = placed_from (n + 1) o (spell v rest) in
    kept_is cuts rest v b (item_more b items x) (n + 1) o e later
    ∙ same_kept (version_after v rest) (is_cut cuts (opening_behind o (spell v rest))) _ _
    (one_item b x p items (filter (is_uncut cuts) more) refl
    ∙ ap (λ (t : Bool). items ++ map item_of (cond (not t) (p ∷ filter (is_uncut cuts) more)
    (filter (is_uncut cuts) more))) (sym e))
kept_is cuts (a.Ended name ∷ rest) v b items n o e later =
    let x = End name in
    let p : Placed = record { place = n; opening = o; item = x } in
    let more = placed_from (n + 1) (o + 1) (spell v rest) in
    kept_is cuts rest v false (item_more b items x) (n + 1) (o + 1) (later (o + 1) (omega arith))
    (λ m lt. later m (omega arith))
    ∙ same_kept (version_after v rest) (is_cut cuts (opening_behind (o + 1) (spell v rest))) _ _
    (one_item b x p items (filter (is_uncut cuts) more) refl
    ∙ ap (λ (t : Bool). items ++ map item_of (cond (not t) (p ∷ filter (is_uncut cuts) more)
    (filter (is_uncut cuts) more))) (sym e))

-- places behind items

pub placed_append : (n o : ℕ) (xs ys : List Item)
    → placed_from n o (xs ++ ys) ≡ placed_from n o xs ++ placed_from (n + length xs) (opening_behind o xs) ys
placed_append n o [] ys = let e : n ≡ n + 0 = omega arith in ap (λ k. placed_from k o ys) e
placed_append n o (x ∷ xs) ys =
    let e : (n + 1) + length xs ≡ n + length (x ∷ xs) = omega arith in
    ap (λ ps. record { place = n; opening = o; item = x } ∷ ps) (placed_append (n + 1) (opening_after x o) xs ys
    ∙ ap (λ k. placed_from (n + 1) (opening_after x o) xs ++ placed_from k (opening_behind
    (opening_after x o) xs) ys) e)

pub behind_append : (o : ℕ) (xs ys : List Item) → opening_behind o (xs ++ ys) ≡ opening_behind (opening_behind o xs) ys
behind_append o [] ys = refl
behind_append o (x ∷ xs) ys = behind_append (opening_after x o) xs ys

after_more : (x : Item) (o : ℕ) → o ≤ opening_after x o
after_more (Message m) o = omega arith
after_more (End name) o = omega arith

pub behind_more : (o : ℕ) (xs : List Item) → o ≤ opening_behind o xs
behind_more o [] = omega arith
behind_more o (x ∷ xs) = let one = after_more x o in let rest = behind_more (opening_after x o) xs in omega arith

pub drop_behind : {A : Type 0} (n : ℕ) (xs ys : List A) → n ≤ length xs → drop n (xs ++ ys) ≡ drop n xs ++ ys
drop_behind zero xs ys le = refl
drop_behind (suc n) [] ys le = absurd (omega arith)
drop_behind (suc n) (x ∷ xs) ys le = drop_behind n xs ys (omega arith)
