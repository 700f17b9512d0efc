-- What may follow in a state: the bytes zs bring it to its end, with the tree out.
use Rattle.std.proofs.Common.{◌≡◌, ℕ, suc, ◌+◌, ◌-◌, ◌*◌, ◌⊎◌, true, List, [], ◌∷◌, ◌++◌, Some, length}
use Rattle.std.specs.Prelude.{encode_utf8}
use Rattle.std.specs.Char.{IsScalar}
use Rattle.rt_json.specs.Text.{short_escape, hex_value, is_high, is_low, pair_code, IsUnit, IsRest}
use Rattle.rt_json.specs.Grammar.{AreBlanks, IsValue, MoreItems, IsMember, MoreMembers, member}
use Rattle.rt_json.specs.Machine as m
use Rattle.rt_json.specs.Machine.{Inner, Half, Slot, State}
use Rattle.rt_json.specs.declared.tree.Json.{Json}
use Rattle.rt_json.specs.declared.tree.Json.TheVariants as j
use Rattle.rt_json.specs.declared.tree.named.Member.{Member}
use Rattle.rt_json.specs.declared.state.Frame.{Frame}
use Rattle.rt_json.specs.declared.state.Frame.TheVariants as frame
use Rattle.rt_json.specs.declared.state.Mode.{Mode}
use Rattle.rt_json.specs.declared.state.Mode.TheVariants as mode
use Rattle.rt_json.proofs.Numbers.{number_ends}
use Rattle.rt_json.proofs.Utf8.{Fills}

-- what may follow a value or a text that is read, with the tree of the whole
abbrev pub Behind : Type 0 → Type 1
Behind A = A → List ℕ → Json → Type 0

-- how many levels a list or an object has within, and a value in what is open
abbrev pub inside : ℕ → List Frame → ℕ
inside levels stack = levels - suc (length stack)

abbrev pub left : ℕ → List Frame → ℕ
left levels stack = levels - length stack

abbrev pub BehindItem : Behind Json → ℕ → List Json → List ℕ → Json → Type 0
BehindItem K n items zs out = (all : List Json) × (ys : List ℕ) × MoreItems n items all zs ys × K (j.List all) ys out

abbrev pub BehindMember : Behind Json → ℕ → List Member → List ℕ → Json → Type 0
BehindMember K n members zs out = (all : List Member) × (ys : List ℕ) × MoreMembers n members all zs ys × K (j.Object all) ys out

abbrev pub BehindValue : ℕ → List Frame → Behind Json
BehindValue levels [] v zs out = AreBlanks zs [] × (out ≡ v)
BehindValue levels (frame.Item items ∷ outer) v zs out = BehindItem (BehindValue levels outer) (inside levels outer) (items ++ v ∷ []) zs out
BehindValue levels (frame.Member members name ∷ outer) v zs out = BehindMember (BehindValue levels outer) (inside levels outer) (members ++ member name v ∷ []) zs out

-- a value, and what may follow it
abbrev pub AtValue : Behind Json → ℕ → List ℕ → Json → Type 0
AtValue K n zs out = (v : Json) × (xs ys : List ℕ) × AreBlanks zs xs × IsValue n v xs ys × K v ys out

abbrev pub AtName : Behind Json → ℕ → List Member → List ℕ → Json → Type 0
AtName K n members zs out = (one : Member) × (ys : List ℕ) × IsMember n one zs ys × BehindMember K n (members ++ one ∷ []) ys out

abbrev pub AtFirstName : Behind Json → ℕ → List ℕ → Json → Type 0
AtFirstName K n zs out = ((ys : List ℕ) × AreBlanks zs (125 ∷ ys) × K (j.Object []) ys out) ⊎ AtName K n [] zs out

abbrev pub AtColon : Behind Json → ℕ → List Member → List ℕ → List ℕ → Json → Type 0
AtColon K n members name zs out =
    (v : Json) × (xs ys us : List ℕ) × AreBlanks zs (58 ∷ xs) × AreBlanks xs ys × IsValue n v ys us × BehindMember K n (members ++ member name v ∷ []) us out

abbrev pub AtFirstItem : Behind Json → ℕ → Behind Json → List ℕ → Json → Type 0
AtFirstItem K n L zs out = ((ys : List ℕ) × AreBlanks zs (93 ∷ ys) × K (j.List []) ys out) ⊎ AtValue L n zs out

abbrev pub Outside : ℕ → List Frame → Mode → List ℕ → Json → Type 0
Outside levels stack mode.Value zs out = AtValue (BehindValue levels stack) (left levels stack) zs out
Outside levels stack mode.FirstItem zs out =
    AtFirstItem (BehindValue levels stack) (inside levels stack) (BehindValue levels (frame.Item [] ∷ stack)) zs out
Outside levels stack (mode.AfterItem items) zs out = BehindItem (BehindValue levels stack) (inside levels stack) items zs out
Outside levels stack mode.FirstName zs out = AtFirstName (BehindValue levels stack) (inside levels stack) zs out
Outside levels stack (mode.Name members) zs out = AtName (BehindValue levels stack) (inside levels stack) members zs out
Outside levels stack (mode.Colon members name) zs out = AtColon (BehindValue levels stack) (inside levels stack) members name zs out
Outside levels stack (mode.AfterMember members) zs out = BehindMember (BehindValue levels stack) (inside levels stack) members zs out
Outside levels stack (mode.Done tree) zs out = AreBlanks zs [] × (out ≡ tree)

-- the rest of a text
abbrev pub AtRest : Behind (List ℕ) → List ℕ → List ℕ → Json → Type 0
AtRest K text zs out = (all ys : List ℕ) × IsRest text all zs ys × K all ys out

abbrev pub Digit : (ℕ → List ℕ → Type 0) → List ℕ → Type 0
Digit P zs = (b v : ℕ) × (ys : List ℕ) × (zs ≡ b ∷ ys) × (hex_value b ≡ Some v) × P v ys

abbrev pub BehindUnit : Behind (List ℕ) → List ℕ → Half → ℕ → List ℕ → Json → Type 0
BehindUnit K text m.first_unit u zs out =
    (IsScalar u × AtRest K (text ++ encode_utf8 u) zs out)
    ⊎ ((is_high u ≡ true) × (low : ℕ) × (xs ys : List ℕ) × (zs ≡ 92 ∷ 117 ∷ xs) × IsUnit low xs ys × (is_low low ≡ true) × AtRest K (text ++ encode_utf8 (pair_code u low)) ys out)
BehindUnit K text (m.second_unit high) u zs out = (is_low u ≡ true) × AtRest K (text ++ encode_utf8 (pair_code high u)) zs out

abbrev pub Unit3 : Behind (List ℕ) → List ℕ → Half → ℕ → List ℕ → Json → Type 0
Unit3 K text half v zs out = Digit (λ x ys. BehindUnit K text half (v * 16 + x) ys out) zs

abbrev pub Unit2 : Behind (List ℕ) → List ℕ → Half → ℕ → List ℕ → Json → Type 0
Unit2 K text half v zs out = Digit (λ x ys. Unit3 K text half (v * 16 + x) ys out) zs

abbrev pub Unit1 : Behind (List ℕ) → List ℕ → Half → ℕ → List ℕ → Json → Type 0
Unit1 K text half v zs out = Digit (λ x ys. Unit2 K text half (v * 16 + x) ys out) zs

abbrev pub Unit0 : Behind (List ℕ) → List ℕ → Half → List ℕ → Json → Type 0
Unit0 K text half zs out = Digit (λ x ys. Unit1 K text half x ys out) zs

abbrev pub InText : Behind (List ℕ) → List ℕ → Inner → List ℕ → Json → Type 0
InText K text m.between zs out = AtRest K text zs out
InText K text (m.filling t count) zs out = (more ys : List ℕ) × (zs ≡ more ++ ys) × Fills t count more × AtRest K (text ++ more) ys out
InText K text m.escape zs out =
    ((x c : ℕ) × (ys : List ℕ) × (zs ≡ x ∷ ys) × (short_escape x ≡ Some c) × AtRest K (text ++ c ∷ []) ys out)
    ⊎ ((ys : List ℕ) × (zs ≡ 117 ∷ ys) × Unit0 K text m.first_unit ys out)
InText K text (m.unit0 half) zs out = Unit0 K text half zs out
InText K text (m.unit1 half v) zs out = Unit1 K text half v zs out
InText K text (m.unit2 half v) zs out = Unit2 K text half v zs out
InText K text (m.unit3 half v) zs out = Unit3 K text half v zs out
InText K text (m.high u) zs out = (ys : List ℕ) × (zs ≡ 92 ∷ 117 ∷ ys) × Unit0 K text (m.second_unit u) ys out
InText K text (m.high_backslash u) zs out = (ys : List ℕ) × (zs ≡ 117 ∷ ys) × Unit0 K text (m.second_unit u) ys out

-- what may follow a text
abbrev pub BehindText : ℕ → List Frame → Slot → Behind (List ℕ)
BehindText levels stack m.as_value text zs out = BehindValue levels stack (j.Text text) zs out
BehindText levels stack (m.as_name members) text zs out = AtColon (BehindValue levels stack) (inside levels stack) members text zs out

abbrev pub Rest : ℕ → State → List ℕ → Json → Type 0
Rest levels (m.outside stack o) zs out = Outside levels stack o zs out
Rest levels (m.in_word stack b bs tree) zs out = (ys : List ℕ) × (zs ≡ (b ∷ bs) ++ ys) × BehindValue levels stack tree ys out
Rest levels (m.in_number stack digits text) zs out =
    (more ys : List ℕ) × (zs ≡ more ++ ys) × (number_ends digits more ≡ true) × BehindValue levels stack (j.Num (text ++ more)) ys out
Rest levels (m.in_text stack slot text inner) zs out = InText (BehindText levels stack slot) text inner zs out
