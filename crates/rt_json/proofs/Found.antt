-- What was read stands so in the grammar: a step back over a byte.
use Rattle.std.proofs.Common.{◌≡◌, ℕ, zero, suc, ◌+◌, ◌*◌, ◌<◌, ◌≤◌, inl, inr, Bool, true, false, List, [], ◌∷◌, ◌++◌, Option, Some, None, refl, ap, subst, sym, ◌∙◌, length, append_assoc, append-nil, arith}
use Rattle.std.specs.Prelude.{◌==◌, nat_lt, encode_utf8}
use Rattle.std.proofs.lemmas.Bool.{cond_both, eqb-true, eqb-false, ltb-true, ltb-false}
use Rattle.std.proofs.lemmas.Str.{encode_ascii}
use lib.Utf8.{scalar, low_scalar}
use Rattle.rt_value.specs.Places.{Answer}
use Rattle.rt_value.proofs.Places.{seen, RestOf}
use Rattle.rt_json.specs.Text.{short_escape, hex_value, is_high, is_low, pair_code, IsRest, IsText, IsPlain, IsUnit}
use Rattle.rt_json.specs.Text as t
use Rattle.rt_json.specs.Grammar as g
use Rattle.rt_json.specs.Grammar.{is_blank, AreBlanks, IsValue, MoreItems, IsMember, MoreMembers, member}
use Rattle.rt_json.specs.Machine as m
use Rattle.rt_json.specs.Machine.{Inner, Half, Slot, State, TextAnswer, class_of, digits_after, may_end, step}
use Rattle.rt_json.specs.declared.tree.Json.{Json}
use Rattle.rt_json.specs.declared.tree.Json.TheVariants as j
use Rattle.rt_json.specs.declared.tree.named.Member.{Member}
use Rattle.rt_json.specs.declared.state.Frame.{Frame}
use Rattle.rt_json.specs.declared.state.Frame.TheVariants as frame
use Rattle.rt_json.specs.declared.state.Mode.{Mode}
use Rattle.rt_json.specs.declared.state.Mode.TheVariants as mode
use Rattle.rt_json.specs.declared.bytes.Class.{Class}
use Rattle.rt_json.specs.declared.bytes.Class.TheVariants as c
use Rattle.rt_json.specs.declared.bytes.Word.TheVariants as w
use Rattle.rt_json.specs.declared.bytes.Digits.{Digits}
use Rattle.rt_json.specs.declared.bytes.Tail.{Tail}
use Rattle.rt_json.proofs.Classes.{IsOf, class_means}
use Rattle.rt_json.proofs.Numbers.{number_ends, ends_on, number_found}
use Rattle.rt_json.proofs.Utf8.{lead_means, character}
use Rattle.rt_json.proofs.Rest.{Behind, BehindValue, BehindItem, BehindMember, AtValue, AtName, AtFirstName, AtColon, AtFirstItem, Outside, AtRest, BehindUnit, Unit0, Unit1, Unit2, Unit3, InText, BehindText, Rest, inside, left}

-- a byte that is known
at : (P : List ℕ → Type 0) (b n : ℕ) (zs : List ℕ) → b ≡ n → P (n ∷ zs) → P (b ∷ zs)
at P b n zs e p = subst (λ (x : ℕ). P (x ∷ zs)) (sym e) p

-- a blank before a phrase that may begin with blanks
items_blank : {n : ℕ} {b : ℕ} {before all : List Json} {xs ys : List ℕ} → is_blank b ≡ true → MoreItems n before all xs ys → MoreItems n before all (b ∷ xs) ys
items_blank h (g.close_list bl) = g.close_list (g.blank h bl)
items_blank h (g.next_item bl bm v more) = g.next_item (g.blank h bl) bm v more

members_blank : {n : ℕ} {b : ℕ} {before all : List Member} {xs ys : List ℕ} → is_blank b ≡ true → MoreMembers n before all xs ys → MoreMembers n before all (b ∷ xs) ys
members_blank h (g.close_object bl) = g.close_object (g.blank h bl)
members_blank h (g.next_member bl one more) = g.next_member (g.blank h bl) one more

member_blank : {n : ℕ} {b : ℕ} {one : Member} {xs ys : List ℕ} → is_blank b ≡ true → IsMember n one xs ys → IsMember n one (b ∷ xs) ys
member_blank h (g.named bl name bm bn v) = g.named (g.blank h bl) name bm bn v

-- a value that begins here
abbrev Begun : Behind Json → ℕ → List ℕ → Json → Type 0
Begun K n zs out = (v : Json) × (ys : List ℕ) × IsValue n v zs ys × K v ys out

value_of : (K : Behind Json) (n : ℕ) (zs : List ℕ) (out : Json) → Begun K n zs out → AtValue K n zs out
value_of K n zs out (v, ys, is, k) = (v, zs, ys, g.no_blank, is, k)

list_begun : (K L : Behind Json) (n b : ℕ) (zs : List ℕ) (out : Json) → b ≡ 91 → AtFirstItem K n L zs out
    → ((v : Json) (ys : List ℕ) → L v ys out → BehindItem K n (v ∷ []) ys out) → Begun K (suc n) (b ∷ zs) out
list_begun K L n b zs out e (inl (ys, bl, k)) f = (j.List [], ys, at (λ xs. IsValue (suc n) (j.List []) xs ys) b 91 zs e (g.no_items bl), k)
list_begun K L n b zs out e (inr (v, xs, ys, bl, is, l)) f =
    let k = f v ys l in (j.List k.0, k.1, at (λ us. IsValue (suc n) (j.List k.0) us k.1) b 91 zs e (g.items bl is k.2), k.3)

object_begun : (K : Behind Json) (n b : ℕ) (zs : List ℕ) (out : Json) → b ≡ 123 → AtFirstName K n zs out → Begun K (suc n) (b ∷ zs) out
object_begun K n b zs out e (inl (ys, bl, k)) = (j.Object [], ys, at (λ xs. IsValue (suc n) (j.Object []) xs ys) b 123 zs e (g.no_members bl), k)
object_begun K n b zs out e (inr (one, ys, is, (all, us, more, k))) = (j.Object all, us, at (λ xs. IsValue (suc n) (j.Object all) xs us) b 123 zs e (g.members is more), k)

-- one level more than within
deeper : (levels : ℕ) (stack : List Frame) → length stack < levels → suc (inside levels stack) ≡ left levels stack
deeper levels stack lt = omega (arith, lt)

opened_list : (levels : ℕ) (stack : List Frame) (b : ℕ) (zs : List ℕ) (out : Json) → b ≡ 91
    → RestOf (Rest levels) (m.opened levels stack mode.FirstItem) (Some b) zs out → Begun (BehindValue levels stack) (left levels stack) (b ∷ zs) out
opened_list levels stack b zs out e =
    let P : Answer State Json → Type 0 = λ a. RestOf (Rest levels) a (Some b) zs out → Begun (BehindValue levels stack) (left levels stack) (b ∷ zs) out in
    cond_both (nat_lt (length stack) levels) _ _ P
    (λ lt h. subst (λ (n : ℕ). Begun (BehindValue levels stack) n (b ∷ zs) out) (deeper levels stack (ltb-true (length stack) levels lt))
    (list_begun (BehindValue levels stack) (BehindValue levels (frame.Item [] ∷ stack)) (inside levels stack) b zs out e h (λ v ys k. k)))
    (λ _ h. absurd h)

opened_object : (levels : ℕ) (stack : List Frame) (b : ℕ) (zs : List ℕ) (out : Json) → b ≡ 123
    → RestOf (Rest levels) (m.opened levels stack mode.FirstName) (Some b) zs out → Begun (BehindValue levels stack) (left levels stack) (b ∷ zs) out
opened_object levels stack b zs out e =
    let P : Answer State Json → Type 0 = λ a. RestOf (Rest levels) a (Some b) zs out → Begun (BehindValue levels stack) (left levels stack) (b ∷ zs) out in
    cond_both (nat_lt (length stack) levels) _ _ P
    (λ lt h. subst (λ (n : ℕ). Begun (BehindValue levels stack) n (b ∷ zs) out) (deeper levels stack (ltb-true (length stack) levels lt))
    (object_begun (BehindValue levels stack) (inside levels stack) b zs out e h))
    (λ _ h. absurd h)

begun_found : (levels : ℕ) (stack : List Frame) (b : ℕ) (class : Class) (zs : List ℕ) (out : Json) → IsOf b class
    → RestOf (Rest levels) (m.begun levels stack b class) (Some b) zs out → Begun (BehindValue levels stack) (left levels stack) (b ∷ zs) out
begun_found levels stack b c.Quote zs out e (all, ys, rest, k) =
    (j.Text all, ys, at (λ xs. IsValue (left levels stack) (j.Text all) xs ys) b 34 zs e (g.text (t.quoted rest)), k)
begun_found levels stack b (c.NumberStart digits) zs out e (more, ys, is, h, k) = (
  j.Num (b ∷ more),
  ys,
  subst (λ (xs : List ℕ). IsValue (left levels stack) (j.Num (b ∷ more)) (b ∷ xs) ys) (sym is) (g.number {text = b ∷ more} (number_found digits b more e h)),
  k,
)
begun_found levels stack b (c.WordStart w.Null) zs out e (ys, is, k) =
    (j.Null, ys, at (λ xs. IsValue (left levels stack) j.Null xs ys) b 110 zs e (subst (λ (xs : List ℕ). IsValue (left levels stack) j.Null (110 ∷ xs) ys) (sym is) g.null), k)
begun_found levels stack b (c.WordStart w.True) zs out e (ys, is, k) =
    (j.Bool true, ys, at (λ xs. IsValue (left levels stack) (j.Bool true) xs ys) b 116 zs e (subst (λ (xs : List ℕ). IsValue (left levels stack) (j.Bool true) (116 ∷ xs) ys) (sym is) g.truth), k)
begun_found levels stack b (c.WordStart w.False) zs out e (ys, is, k) =
    (j.Bool false, ys, at (λ xs. IsValue (left levels stack) (j.Bool false) xs ys) b 102 zs e (subst (λ (xs : List ℕ). IsValue (left levels stack) (j.Bool false) (102 ∷ xs) ys) (sym is) g.falsity), k)
begun_found levels stack b c.LeftBracket zs out e h = opened_list levels stack b zs out e h
begun_found levels stack b c.LeftBrace zs out e h = opened_object levels stack b zs out e h
begun_found levels stack b c.Blank zs out e h = absurd h
begun_found levels stack b c.Comma zs out e h = absurd h
begun_found levels stack b c.Colon zs out e h = absurd h
begun_found levels stack b c.RightBracket zs out e h = absurd h
begun_found levels stack b c.RightBrace zs out e h = absurd h
begun_found levels stack b c.Other zs out e h = absurd h

completed_found : (levels : ℕ) (stack : List Frame) (v : Json) (zs : List ℕ) (out : Json) → Rest levels (m.completed stack v) zs out → BehindValue levels stack v zs out
completed_found levels [] v zs out h = h
completed_found levels (frame.Item items ∷ outer) v zs out h = h
completed_found levels (frame.Member members name ∷ outer) v zs out h = h

given_found : (levels : ℕ) (stack : List Frame) (slot : Slot) (text zs : List ℕ) (out : Json) → Rest levels (m.given stack slot text) zs out → BehindText levels stack slot text zs out
given_found levels stack m.as_value text zs out h = completed_found levels stack (j.Text text) zs out h
given_found levels stack (m.as_name members) text zs out h = h

at_value_found : (levels : ℕ) (stack : List Frame) (b : ℕ) (class : Class) (zs : List ℕ) (out : Json) → IsOf b class
    → RestOf (Rest levels) (m.at_value levels stack b class) (Some b) zs out → AtValue (BehindValue levels stack) (left levels stack) (b ∷ zs) out
at_value_found levels stack b c.Blank zs out e (v, xs, ys, bl, is, k) = (v, xs, ys, g.blank e bl, is, k)
at_value_found levels stack b class zs out e h = value_of (BehindValue levels stack) (left levels stack) (b ∷ zs) out (begun_found levels stack b class zs out e h)

at_first_item_found : (levels : ℕ) (stack : List Frame) (b : ℕ) (class : Class) (zs : List ℕ) (out : Json) → IsOf b class
    → RestOf (Rest levels) (m.at_first_item levels stack b class) (Some b) zs out → Outside levels stack mode.FirstItem (b ∷ zs) out
at_first_item_found levels stack b c.Blank zs out e (inl (ys, bl, k)) = inl (ys, g.blank e bl, k)
at_first_item_found levels stack b c.Blank zs out e (inr (v, xs, ys, bl, is, k)) = inr (v, xs, ys, g.blank e bl, is, k)
at_first_item_found levels stack b c.RightBracket zs out e h = inl (zs, at (λ xs. AreBlanks xs (93 ∷ zs)) b 93 zs e g.no_blank, completed_found levels stack (j.List []) zs out h)
at_first_item_found levels stack b class zs out e h =
    inr (value_of (BehindValue levels (frame.Item [] ∷ stack)) (left levels (frame.Item [] ∷ stack)) (b ∷ zs) out (begun_found levels (frame.Item [] ∷ stack) b class zs out e h))

after_item_found : (levels : ℕ) (stack : List Frame) (items : List Json) (b : ℕ) (class : Class) (zs : List ℕ) (out : Json) → IsOf b class
    → RestOf (Rest levels) (m.after_item stack items class) (Some b) zs out → BehindItem (BehindValue levels stack) (inside levels stack) items (b ∷ zs) out
after_item_found levels stack items b c.Blank zs out e (all, ys, more, k) = (all, ys, items_blank e more, k)
after_item_found levels stack items b c.Comma zs out e (v, xs, ys, bl, is, (all, us, more, k)) =
    (all, us, at (λ vs. MoreItems (inside levels stack) items all vs us) b 44 zs e (g.next_item g.no_blank bl is more), k)
after_item_found levels stack items b c.RightBracket zs out e h =
    (items, zs, at (λ vs. MoreItems (inside levels stack) items items vs zs) b 93 zs e (g.close_list g.no_blank), completed_found levels stack (j.List items) zs out h)
after_item_found levels stack items b _ zs out e h = absurd h

at_name_quote : (levels : ℕ) (stack : List Frame) (members : List Member) (b : ℕ) (zs : List ℕ) (out : Json) → b ≡ 34
    → AtRest (BehindText levels stack (m.as_name members)) [] zs out → AtName (BehindValue levels stack) (inside levels stack) members (b ∷ zs) out
at_name_quote levels stack members b zs out e (all, ys, rest, (v, xs, us, vs, bl, bm, is, k)) =
    (member all v, vs, at (λ ws. IsMember (inside levels stack) (member all v) ws vs) b 34 zs e (g.named g.no_blank (t.quoted rest) bl bm is), k)

at_first_name_found : (levels : ℕ) (stack : List Frame) (b : ℕ) (class : Class) (zs : List ℕ) (out : Json) → IsOf b class
    → RestOf (Rest levels) (m.at_first_name stack class) (Some b) zs out → AtFirstName (BehindValue levels stack) (inside levels stack) (b ∷ zs) out
at_first_name_found levels stack b c.Blank zs out e (inl (ys, bl, k)) = inl (ys, g.blank e bl, k)
at_first_name_found levels stack b c.Blank zs out e (inr (one, ys, is, k)) = inr (one, ys, member_blank e is, k)
at_first_name_found levels stack b c.RightBrace zs out e h =
    inl (zs, at (λ xs. AreBlanks xs (125 ∷ zs)) b 125 zs e g.no_blank, completed_found levels stack (j.Object []) zs out h)
at_first_name_found levels stack b c.Quote zs out e h = inr (at_name_quote levels stack [] b zs out e h)
at_first_name_found levels stack b _ zs out e h = absurd h

at_name_found : (levels : ℕ) (stack : List Frame) (members : List Member) (b : ℕ) (class : Class) (zs : List ℕ) (out : Json) → IsOf b class
    → RestOf (Rest levels) (m.at_name stack members class) (Some b) zs out → AtName (BehindValue levels stack) (inside levels stack) members (b ∷ zs) out
at_name_found levels stack members b c.Blank zs out e (one, ys, is, k) = (one, ys, member_blank e is, k)
at_name_found levels stack members b c.Quote zs out e h = at_name_quote levels stack members b zs out e h
at_name_found levels stack members b _ zs out e h = absurd h

at_colon_found : (levels : ℕ) (stack : List Frame) (members : List Member) (name : List ℕ) (b : ℕ) (class : Class) (zs : List ℕ) (out : Json) → IsOf b class
    → RestOf (Rest levels) (m.at_colon stack members name class) (Some b) zs out → AtColon (BehindValue levels stack) (inside levels stack) members name (b ∷ zs) out
at_colon_found levels stack members name b c.Blank zs out e (v, xs, ys, us, bl, bm, is, k) = (v, xs, ys, us, g.blank e bl, bm, is, k)
at_colon_found levels stack members name b c.Colon zs out e (v, xs, ys, bl, is, k) = (v, zs, xs, ys, at (λ vs. AreBlanks vs (58 ∷ zs)) b 58 zs e g.no_blank, bl, is, k)
at_colon_found levels stack members name b _ zs out e h = absurd h

after_member_found : (levels : ℕ) (stack : List Frame) (members : List Member) (b : ℕ) (class : Class) (zs : List ℕ) (out : Json) → IsOf b class
    → RestOf (Rest levels) (m.after_member stack members class) (Some b) zs out → BehindMember (BehindValue levels stack) (inside levels stack) members (b ∷ zs) out
after_member_found levels stack members b c.Blank zs out e (all, ys, more, k) = (all, ys, members_blank e more, k)
after_member_found levels stack members b c.Comma zs out e (one, ys, is, (all, us, more, k)) =
    (all, us, at (λ vs. MoreMembers (inside levels stack) members all vs us) b 44 zs e (g.next_member g.no_blank is more), k)
after_member_found levels stack members b c.RightBrace zs out e h =
    (members, zs, at (λ vs. MoreMembers (inside levels stack) members members vs zs) b 125 zs e (g.close_object g.no_blank), completed_found levels stack (j.Object members) zs out h)
after_member_found levels stack members b _ zs out e h = absurd h

after_all_found : (levels : ℕ) (stack : List Frame) (tree : Json) (b : ℕ) (class : Class) (zs : List ℕ) (out : Json) → IsOf b class
    → RestOf (Rest levels) (m.after_all stack tree class) (Some b) zs out → AreBlanks (b ∷ zs) [] × (out ≡ tree)
after_all_found levels stack tree b c.Blank zs out e (bl, is) = (g.blank e bl, is)
after_all_found levels stack tree b _ zs out e h = absurd h

outside_found : (levels : ℕ) (stack : List Frame) (o : Mode) (b : ℕ) (class : Class) (zs : List ℕ) (out : Json) → IsOf b class
    → RestOf (Rest levels) (m.outside_next levels stack o b class) (Some b) zs out → Outside levels stack o (b ∷ zs) out
outside_found levels stack mode.Value b class zs out e h = at_value_found levels stack b class zs out e h
outside_found levels stack mode.FirstItem b class zs out e h = at_first_item_found levels stack b class zs out e h
outside_found levels stack (mode.AfterItem items) b class zs out e h = after_item_found levels stack items b class zs out e h
outside_found levels stack mode.FirstName b class zs out e h = at_first_name_found levels stack b class zs out e h
outside_found levels stack (mode.Name members) b class zs out e h = at_name_found levels stack members b class zs out e h
outside_found levels stack (mode.Colon members name) b class zs out e h = at_colon_found levels stack members name b class zs out e h
outside_found levels stack (mode.AfterMember members) b class zs out e h = after_member_found levels stack members b class zs out e h
outside_found levels stack (mode.Done tree) b class zs out e h = after_all_found levels stack tree b class zs out e h

-- the byte behind a value that is read
past_found : (levels : ℕ) (stack : List Frame) (v : Json) (b : ℕ) (class : Class) (zs : List ℕ) (out : Json) → IsOf b class
    → RestOf (Rest levels) (m.past_value stack v class) (Some b) zs out → BehindValue levels stack v (b ∷ zs) out
past_found levels [] v b class zs out e h = after_all_found levels [] v b class zs out e h
past_found levels (frame.Item items ∷ outer) v b class zs out e h = after_item_found levels outer (items ++ v ∷ []) b class zs out e h
past_found levels (frame.Member members name ∷ outer) v b class zs out e h = after_member_found levels outer (members ++ member name v ∷ []) b class zs out e h

word_found : (levels : ℕ) (stack : List Frame) (bs : List ℕ) (tree : Json) (zs : List ℕ) (out : Json) → Rest levels (m.word_left stack bs tree) zs out
    → (ys : List ℕ) × (zs ≡ bs ++ ys) × BehindValue levels stack tree ys out
word_found levels stack [] tree zs out h = (zs, refl, completed_found levels stack tree zs out h)
word_found levels stack (b ∷ bs) tree zs out h = h

in_word_found : (levels : ℕ) (stack : List Frame) (wanted : ℕ) (bs : List ℕ) (tree : Json) (b : ℕ) (zs : List ℕ) (out : Json)
    → RestOf (Rest levels) (m.byte_step levels (m.in_word stack wanted bs tree) b) (Some b) zs out → Rest levels (m.in_word stack wanted bs tree) (b ∷ zs) out
in_word_found levels stack wanted bs tree b zs out =
    let P : Answer State Json → Type 0 = λ a. RestOf (Rest levels) a (Some b) zs out → Rest levels (m.in_word stack wanted bs tree) (b ∷ zs) out in
    cond_both (b == wanted) _ _ P
    (λ e h. let k = word_found levels stack bs tree zs out h in (k.0, ap (λ (x : ℕ). x ∷ zs) (eqb-true b wanted e) ∙ ap (λ (xs : List ℕ). wanted ∷ xs) k.1, k.2))
    (λ _ h. absurd h)

number_back : (levels : ℕ) (stack : List Frame) (digits : Digits) (text : List ℕ) (b : ℕ) (zs : List ℕ) (out : Json) (o : Option Digits) (may : Bool) → digits_after digits b ≡ o → may_end digits ≡ may
    → RestOf (Rest levels) (m.number_next stack text b may o) (Some b) zs out → Rest levels (m.in_number stack digits text) (b ∷ zs) out
number_back levels stack digits text b zs out (Some after) may e f (more, ys, is, h, k) = (
  b ∷ more,
  ys,
  ap (λ (xs : List ℕ). b ∷ xs) is,
  ap (ends_on (λ n. number_ends n more)) e ∙ h,
  subst (λ (xs : List ℕ). BehindValue levels stack (j.Num xs) ys out) (append_assoc text (b ∷ []) more) k,
)
number_back levels stack digits text b zs out None true e f h =
    ([], b ∷ zs, refl, f, subst (λ (xs : List ℕ). BehindValue levels stack (j.Num xs) (b ∷ zs) out) (sym (append-nil text)) (past_found levels stack (j.Num text) b (class_of b) zs out (class_means b) h))
number_back levels stack digits text b zs out None false e f h = absurd h

-- what may follow a byte of a text
abbrev TextRest : Behind (List ℕ) → List ℕ → TextAnswer → List ℕ → Json → Type 0
TextRest K text (m.goes more inner) zs out = InText K more inner zs out
TextRest K text m.closed zs out = K text zs out
TextRest K text m.broken zs out = ⊥

plain_found : (K : Behind (List ℕ)) (text : List ℕ) (b : ℕ) (zs : List ℕ) (out : Json) → 32 ≤ b → b < 128 → (b == 34) ≡ false → (b == 92) ≡ false
    → AtRest K (text ++ b ∷ []) zs out → AtRest K text (b ∷ zs) out
plain_found K text b zs out l h e f (all, ys, rest, k) =
    let one : encode_utf8 b ≡ b ∷ [] = encode_ascii b h in (
      all,
      ys,
      subst (λ (xs : List ℕ). IsRest text all (xs ++ zs) ys) one (t.plain {c = b} (low_scalar b (omega arith), l, eqb-false b 34 e, eqb-false b 92 f) (subst (λ (xs : List ℕ). IsRest (text ++ xs) all zs ys) (sym one) rest)),
      k,
    )

led_found : (K : Behind (List ℕ)) (text : List ℕ) (b : ℕ) (zs : List ℕ) (out : Json) (o : Option (Tail × ℕ)) → m.lead b ≡ o
    → TextRest K text (m.led (text ++ b ∷ []) o) zs out → AtRest K text (b ∷ zs) out
led_found K text b zs out None e h = absurd h
led_found K text b zs out (Some (kind, count)) e (more, ys, is, fills, (all, us, rest, k)) =
    let ch = character kind count b more (lead_means b kind count e) fills in
    let regrouped : (text ++ b ∷ []) ++ more ≡ text ++ encode_utf8 ch.char = append_assoc text (b ∷ []) more ∙ ap (λ (xs : List ℕ). text ++ xs) (sym ch.bytes) in
    let whole : b ∷ zs ≡ encode_utf8 ch.char ++ ys = ap (λ (xs : List ℕ). b ∷ xs) is ∙ ap (λ (xs : List ℕ). xs ++ ys) (sym ch.bytes) in
    let high = ch.high in (
      all,
      us,
      subst (λ (xs : List ℕ). IsRest text all xs us) (sym whole)
          (t.plain {c = ch.char} (ch.is_scalar, omega (arith, high), (λ e. absurd (omega (arith, e, high))), (λ e. absurd (omega (arith, e, high)))) (subst (λ (xs : List ℕ). IsRest xs all ys us) regrouped rest)),
      k,
    )

between_found : (K : Behind (List ℕ)) (text : List ℕ) (b : ℕ) (zs : List ℕ) (out : Json) → TextRest K text (m.text_between text b) zs out → AtRest K text (b ∷ zs) out
between_found K text b zs out =
    let P : TextAnswer → Type 0 = λ a. TextRest K text a zs out → AtRest K text (b ∷ zs) out in
    cond_both (b == 34) _ _ P (λ e h. (text, zs, at (λ xs. IsRest text text xs zs) b 34 zs (eqb-true b 34 e) t.quote, h)) (λ e34.
    cond_both (b == 92) _ _ P (λ e. escape (eqb-true b 92 e)) (λ e92.
    cond_both (nat_lt b 32) _ _ P (λ _ h. absurd h) (λ low.
    cond_both (nat_lt b 128) _ _ P (λ h. plain_found K text b zs out (ltb-false b 32 low) (ltb-true b 128 h) e34 e92) (λ _. led_found K text b zs out (m.lead b) refl))))
  where
    escape : b ≡ 92 → InText K text m.escape zs out → AtRest K text (b ∷ zs) out
    escape e (inl (x, c, ys, is, s, (all, us, rest, k))) =
        (all, us, at (λ xs. IsRest text all xs us) b 92 zs e (subst (λ (xs : List ℕ). IsRest text all (92 ∷ xs) us) (sym is) (t.short s rest)), k)
    escape e (inr (ys, is, (b1, p, y1, i1, h1, (b2, q, y2, i2, h2, (b3, r, y3, i3, h3, (b4, s, y4, i4, h4, h)))))) =
        let four : IsUnit (((p * 16 + q) * 16 + r) * 16 + s) ys y4 =
        subst (λ (xs : List ℕ). IsUnit (((p * 16 + q) * 16 + r) * 16 + s) xs y4)
        (sym (i1 ∙ ap (λ (xs : List ℕ). b1 ∷ xs) (i2 ∙ ap (λ (xs : List ℕ). b2 ∷ xs) (i3 ∙ ap (λ (xs : List ℕ). b3 ∷ xs) i4)))) (t.four h1 h2 h3 h4) in
        unit e ys y4 (((p * 16 + q) * 16 + r) * 16 + s) is four h
      where
        unit : b ≡ 92 → (ys y4 : List ℕ) (u : ℕ) → zs ≡ 117 ∷ ys → IsUnit u ys y4 → BehindUnit K text m.first_unit u y4 out → AtRest K text (b ∷ zs) out
        unit e ys y4 u is four (inl (s, (all, us, rest, k))) =
            (all, us, at (λ xs. IsRest text all xs us) b 92 zs e (subst (λ (xs : List ℕ). IsRest text all (92 ∷ xs) us) (sym is) (t.unit four s rest)), k)
        unit e ys y4 u is four (inr (hi, low, xs, x4, i4, low_unit, lo, (all, us, rest, k))) = (
          all,
          us,
          at (λ xs. IsRest text all xs us) b 92 zs e (subst (λ (xs : List ℕ). IsRest text all (92 ∷ xs) us) (sym is)
              (t.pair (subst (IsUnit u ys) i4 four) hi low_unit lo rest)),
          k,
        )

first_found : (K : Behind (List ℕ)) (text : List ℕ) (half : Half) (b : ℕ) (zs : List ℕ) (out : Json) (o : Option ℕ) → hex_value b ≡ o
    → TextRest K text (m.first_read text half o) zs out → Unit0 K text half (b ∷ zs) out
first_found K text half b zs out None e h = absurd h
first_found K text half b zs out (Some x) e h =
    let P : TextAnswer → Type 0 = λ a. TextRest K text a zs out → Unit0 K text half (b ∷ zs) out in
    cond_both (m.first_digit half x) _ _ P (λ _ h. (b, x, zs, refl, e, h)) (λ _ h. absurd h) h

second_found : (K : Behind (List ℕ)) (text : List ℕ) (half : Half) (v b : ℕ) (zs : List ℕ) (out : Json) (o : Option ℕ) → hex_value b ≡ o
    → TextRest K text (m.second_read text half v o) zs out → Unit1 K text half v (b ∷ zs) out
second_found K text half v b zs out None e h = absurd h
second_found K text half v b zs out (Some x) e h =
    let P : TextAnswer → Type 0 = λ a. TextRest K text a zs out → Unit1 K text half v (b ∷ zs) out in
    cond_both (m.two_digits half (v * 16 + x)) _ _ P (λ _ h. (b, x, zs, refl, e, h)) (λ _ h. absurd h) h

third_found : (K : Behind (List ℕ)) (text : List ℕ) (half : Half) (v b : ℕ) (zs : List ℕ) (out : Json) (o : Option ℕ) → hex_value b ≡ o
    → TextRest K text (m.third_read text half v o) zs out → Unit2 K text half v (b ∷ zs) out
third_found K text half v b zs out None e h = absurd h
third_found K text half v b zs out (Some x) e h = (b, x, zs, refl, e, h)

-- behind a high surrogate stands the low one
low_unit : (K : Behind (List ℕ)) (text : List ℕ) (u : ℕ) (zs : List ℕ) (out : Json) → is_high u ≡ true → InText K text (m.high u) zs out → BehindUnit K text m.first_unit u zs out
low_unit K text u zs out hi (ys, is, (b1, p, y1, i1, h1, (b2, q, y2, i2, h2, (b3, r, y3, i3, h3, (b4, s, y4, i4, h4, (lo, rest)))))) =
    inr (
      hi,
      ((p * 16 + q) * 16 + r) * 16 + s,
      ys,
      y4,
      is,
      subst (λ (xs : List ℕ). IsUnit (((p * 16 + q) * 16 + r) * 16 + s) xs y4)
          (sym (i1 ∙ ap (λ (xs : List ℕ). b1 ∷ xs) (i2 ∙ ap (λ (xs : List ℕ). b2 ∷ xs) (i3 ∙ ap (λ (xs : List ℕ). b3 ∷ xs) i4)))) (t.four h1 h2 h3 h4),
      lo,
      rest,
    )

unit_found : (K : Behind (List ℕ)) (text : List ℕ) (half : Half) (u : ℕ) (zs : List ℕ) (out : Json) → TextRest K text (m.unit_ended text half u) zs out → BehindUnit K text half u zs out
unit_found K text m.first_unit u zs out =
    let P : TextAnswer → Type 0 = λ a. TextRest K text a zs out → BehindUnit K text m.first_unit u zs out in
    cond_both (scalar u) _ _ P (λ e h. inl (e, h)) (λ _. cond_both (is_high u) _ _ P (λ e. low_unit K text u zs out e) (λ _ h. absurd h))
unit_found K text (m.second_unit high) u zs out =
    let P : TextAnswer → Type 0 = λ a. TextRest K text a zs out → BehindUnit K text (m.second_unit high) u zs out in
    cond_both (is_low u) _ _ P (λ e h. (e, h)) (λ _ h. absurd h)

fourth_found : (K : Behind (List ℕ)) (text : List ℕ) (half : Half) (v b : ℕ) (zs : List ℕ) (out : Json) (o : Option ℕ) → hex_value b ≡ o
    → TextRest K text (m.fourth_read text half v o) zs out → Unit3 K text half v (b ∷ zs) out
fourth_found K text half v b zs out None e h = absurd h
fourth_found K text half v b zs out (Some x) e h = (b, x, zs, refl, e, unit_found K text half (v * 16 + x) zs out h)

filled_found : (K : Behind (List ℕ)) (text : List ℕ) (b : ℕ) (kind : Tail) (count : ℕ) (zs : List ℕ) (out : Json) → m.in_tail kind b ≡ true
    → InText K (text ++ b ∷ []) (m.awaiting count) zs out → InText K text (m.filling kind count) (b ∷ zs) out
filled_found K text b kind zero zs out e h = (b ∷ [], zs, refl, (e, refl), h)
filled_found K text b kind (suc count) zs out e (more, ys, is, fills, k) =
    (b ∷ more, ys, ap (λ (xs : List ℕ). b ∷ xs) is, (e, fills), subst (λ (xs : List ℕ). AtRest K xs ys out) (append_assoc text (b ∷ []) more) k)

escaped_found : (K : Behind (List ℕ)) (text : List ℕ) (b : ℕ) (zs : List ℕ) (out : Json) (o : Option ℕ) → short_escape b ≡ o
    → TextRest K text (m.escaped text b o) zs out → InText K text m.escape (b ∷ zs) out
escaped_found K text b zs out (Some x) e h = inl (b, x, zs, refl, e, h)
escaped_found K text b zs out None e h =
    let P : TextAnswer → Type 0 = λ a. TextRest K text a zs out → InText K text m.escape (b ∷ zs) out in
    cond_both (b == 117) _ _ P (λ f h. inr (zs, ap (λ (x : ℕ). x ∷ zs) (eqb-true b 117 f), h)) (λ _ h. absurd h) h

text_found : (K : Behind (List ℕ)) (text : List ℕ) (inner : Inner) (b : ℕ) (zs : List ℕ) (out : Json) → TextRest K text (m.text_step text inner b) zs out → InText K text inner (b ∷ zs) out
text_found K text m.between b zs out h = between_found K text b zs out h
text_found K text (m.filling kind count) b zs out h =
    let P : TextAnswer → Type 0 = λ a. TextRest K text a zs out → InText K text (m.filling kind count) (b ∷ zs) out in
    cond_both (m.in_tail kind b) _ _ P (λ e. filled_found K text b kind count zs out e) (λ _ h. absurd h) h
text_found K text m.escape b zs out h = escaped_found K text b zs out (short_escape b) refl h
text_found K text (m.unit0 half) b zs out h = first_found K text half b zs out (hex_value b) refl h
text_found K text (m.unit1 half v) b zs out h = second_found K text half v b zs out (hex_value b) refl h
text_found K text (m.unit2 half v) b zs out h = third_found K text half v b zs out (hex_value b) refl h
text_found K text (m.unit3 half v) b zs out h = fourth_found K text half v b zs out (hex_value b) refl h
text_found K text (m.high u) b zs out h =
    let P : TextAnswer → Type 0 = λ a. TextRest K text a zs out → InText K text (m.high u) (b ∷ zs) out in
    cond_both (b == 92) _ _ P (λ e k. (k.0, ap (λ (x : ℕ). x ∷ zs) (eqb-true b 92 e) ∙ ap (λ (xs : List ℕ). 92 ∷ xs) k.1, k.2)) (λ _ k. absurd k) h
text_found K text (m.high_backslash u) b zs out h =
    let P : TextAnswer → Type 0 = λ a. TextRest K text a zs out → InText K text (m.high_backslash u) (b ∷ zs) out in
    cond_both (b == 117) _ _ P (λ e k. (zs, ap (λ (x : ℕ). x ∷ zs) (eqb-true b 117 e), k)) (λ _ k. absurd k) h

text_rest : (levels : ℕ) (stack : List Frame) (slot : Slot) (text : List ℕ) (b : ℕ) (a : TextAnswer) (zs : List ℕ) (out : Json)
    → RestOf (Rest levels) (m.text_next stack slot text a) (Some b) zs out → TextRest (BehindText levels stack slot) text a zs out
text_rest levels stack slot text b (m.goes more inner) zs out h = h
text_rest levels stack slot text b m.closed zs out h = given_found levels stack slot text zs out h
text_rest levels stack slot text b m.broken zs out h = h

byte_found : (levels : ℕ) (s : State) (b : ℕ) (zs : List ℕ) (out : Json) → RestOf (Rest levels) (m.byte_step levels s b) (Some b) zs out → Rest levels s (b ∷ zs) out
byte_found levels (m.outside stack o) b zs out h = outside_found levels stack o b (class_of b) zs out (class_means b) h
byte_found levels (m.in_word stack wanted bs tree) b zs out h = in_word_found levels stack wanted bs tree b zs out h
byte_found levels (m.in_number stack digits text) b zs out h = number_back levels stack digits text b zs out (digits_after digits b) (may_end digits) refl refl h
byte_found levels (m.in_text stack slot text inner) b zs out h = text_found (BehindText levels stack slot) text inner b zs out (text_rest levels stack slot text b (m.text_step text inner b) zs out h)

number_end : (levels : ℕ) (stack : List Frame) (digits : Digits) (text zs : List ℕ) (out : Json) (may : Bool) → may_end digits ≡ may
    → RestOf (Rest levels) (m.number_ended stack text may) None zs out → Rest levels (m.in_number stack digits text) zs out
number_end levels [] digits text zs out true e (none, is) =
    ([], zs, refl, e, (subst (λ (xs : List ℕ). AreBlanks xs []) (sym none) g.no_blank, is ∙ ap (λ (xs : List ℕ). j.Num xs) (sym (append-nil text))))
number_end levels [] digits text zs out false e h = absurd h
number_end levels (frame.Item items ∷ outer) digits text zs out may e h = absurd h
number_end levels (frame.Member members name ∷ outer) digits text zs out may e h = absurd h

end_found : (levels : ℕ) (s : State) (zs : List ℕ) (out : Json) → RestOf (Rest levels) (m.end_step s) None zs out → Rest levels s zs out
end_found levels (m.outside stack (mode.Done tree)) zs out (none, is) = (subst (λ (xs : List ℕ). AreBlanks xs []) (sym none) g.no_blank, is)
end_found levels (m.in_number stack digits text) zs out h = number_end levels stack digits text zs out (may_end digits) refl h
end_found levels _ zs out h = absurd h

pub step_found : (levels : ℕ) (s : State) (look : Option ℕ) (zs : List ℕ) (out : Json) → RestOf (Rest levels) (step levels s look) look zs out → Rest levels s (seen look zs) out
step_found levels s None zs out h = end_found levels s zs out h
step_found levels s (Some b) zs out h = byte_found levels s b zs out h
