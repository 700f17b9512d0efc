-- A text is one record or is refused for one reason, and not both; it is never neither.
use Rattle.std.proofs.Common.{◌≡◌, ℕ, List, length, Option, Some, None, IsSome, refl, sym, ap, subst, ◌∙◌}
use Rattle.std.specs.Prelude.{codes, MatchOption, Bool, true, false}
use Rattle.rt_value.specs.Choice.{◌>>=◌}
use Rattle.rt_json.specs.Grammar.{max_levels, IsJson}
use Rattle.rt_json.specs.Lookup.{member_of}
use Rattle.rt_json.specs.Machine.{tree_of}
use Rattle.rt_json.specs.declared.tree.Json.{Json, out-Json}
use Rattle.rt_json.specs.declared.tree.Json.TheOpen.{Json-F}
use Rattle.rt_json.specs.declared.tree.named.Member.{Member}
use Rattle.rt_json.proofs.Meaning.{one_tree, tree_found, tree_again}
use Rattle.rt_wal.specs.declared.records.Record.{Record}
use Rattle.rt_wal.specs.declared.faults.RecordWhy.{RecordWhy}
use Rattle.rt_wal.specs.declared.faults.RecordWhy.TheVariants as why
use Rattle.rt_wal.specs.Records.{IsRecordText, IsRefusedText}
use Rattle.rt_wal.specs.Shapes.{shape_of, action_in, name_for, shows_row, fields_in, keys_in}
use Rattle.rt_wal.specs.Times.{IsMoment, IsTimeAt, IsTimeIn}
use Rattle.rt_wal.proofs.OneMoment.{moment_once}

-- what stands in an option is one
pub same_value : {A : Type 0} (x y : A) (o : Option A) → o ≡ Some x → o ≡ Some y → x ≡ y
same_value x y o e f = let both : Some x ≡ Some y = sym e ∙ f in cc

none_is_none : {A : Type 0} (x : A) (o : Option A) → o ≡ Some x → o ≡ None → ⊥
none_is_none x o e f = let both : Some x ≡ None = sym e ∙ f in cc

-- one commit time at most
text_once : (text : List ℕ) (a b : Option (List ℕ))
    → MatchOption a ⊥ (IsMoment text) → MatchOption b ⊥ (IsMoment text) → a ≡ b
text_once text (Some a) (Some b) x y = ap Some (moment_once text a b x y)
text_once text None b x y = absurd x
text_once text (Some a) None x y = absurd y

time_at_once : (layer : Json-F Json Member) (a b : Option (List ℕ)) → IsTimeAt layer a → IsTimeAt layer b → a ≡ b
time_at_once Json-F.Null a b x y = x ∙ sym y
time_at_once (Json-F.Text text) a b x y = text_once text a b x y
time_at_once _ a b x y = absurd x

time_once : (o : Option Json) (a b : Option (List ℕ))
    → MatchOption o (a ≡ None) (λ t. IsTimeAt (out-Json t) a) → MatchOption o (b ≡ None) (λ t. IsTimeAt (out-Json t) b)
    → a ≡ b
time_once None a b x y = x ∙ sym y
time_once (Some tree) a b x y = time_at_once (out-Json tree) a b x y

-- of two trees of a text each is the other
trees_same : (text : List ℕ) (a b : Json) → IsJson text a → IsJson text b → b ≡ a
trees_same text a b x y = one_tree max_levels text b a y x

pub record_once : (text : List ℕ) (a b : Record) → IsRecordText text a → IsRecordText text b → a ≡ b
record_once text a b x y =
    let tree : y.tree ≡ x.tree = trees_same text x.tree y.tree x.is_json y.is_json in
    let shape = subst (λ (t : Json). shape_of (length text) t ≡ Some (record b { moment = None })) tree y.shape in
    let time = subst (λ (t : Json). IsTimeIn t b.moment) tree y.time in
    let but : record a { moment = None } ≡ record b { moment = None } = same_value _ _ _ x.shape shape in
    let moment : a.moment ≡ b.moment =
    time_once (member_of x.tree (codes "timestamp")) a.moment b.moment x.time time in
    λ i. record (but i) { moment = moment i }

pub record_or_refused : (text : List ℕ) (a : Record) (reason : RecordWhy)
    → IsRecordText text a → IsRefusedText text reason → ⊥
record_or_refused text a why.Json x untold = untold x.tree x.is_json
record_or_refused text a why.Shape x (tree, is_json, none) =
    none_is_none _ (shape_of (length text) x.tree) x.shape
    (ap (shape_of (length text)) (sym (trees_same text x.tree tree x.is_json is_json)) ∙ none)
record_or_refused text a why.Time x (tree, is_json, some, untold) =
    untold a.moment (subst (λ (t : Json). IsTimeIn t a.moment) (sym (trees_same text x.tree tree x.is_json is_json)) x.time)

some_not_none : (o : Option Record) → IsSome o → o ≡ None → ⊥
some_not_none None some e = let told : false ≡ true = some in absurd cc
some_not_none (Some a) some e = absurd cc

some_is_some : (a : Record) (o : Option Record) → o ≡ Some a → IsSome o
some_is_some a (Some b) e = refl
some_is_some a None e = absurd cc

-- a shape is some record's, or none
no_shape : (text : List ℕ) (a b : Json) → IsJson text a → IsJson text b
    → shape_of (length text) a ≡ None → IsSome (shape_of (length text) b) → ⊥
no_shape text a b x y none some =
    some_not_none (shape_of (length text) b) some (ap (shape_of (length text)) (trees_same text a b x y) ∙ none)

pub refused_once : (text : List ℕ) (a b : RecordWhy) → IsRefusedText text a → IsRefusedText text b → a ≡ b
refused_once text why.Json why.Json x y = refl
refused_once text why.Json why.Shape x y = absurd (x y.0 y.1)
refused_once text why.Json why.Time x y = absurd (x y.0 y.1)
refused_once text why.Shape why.Json x y = absurd (y x.0 x.1)
refused_once text why.Shape why.Shape x y = refl
refused_once text why.Shape why.Time (a, x, none) (b, y, some, untold) = absurd (no_shape text a b x y none some)
refused_once text why.Time why.Json x y = absurd (y x.0 x.1)
refused_once text why.Time why.Shape (a, x, some, untold) (b, y, none) = absurd (no_shape text b a y x none some)
refused_once text why.Time why.Time x y = refl

-- a shape has no commit time
abbrev Untimed : Option Record → Type 0
Untimed o = (a : Record) → o ≡ Some a → record a { moment = None } ≡ a

behind : {A : Type 0} (o : Option A) (f : A → Option Record) → ((x : A) → Untimed (f x)) → Untimed (o >>= f)
behind None f each = λ a e. absurd cc
behind (Some x) f each = each x

untimed : (size : ℕ) (tree : Json) → Untimed (shape_of size tree)
untimed size tree =
    behind (action_in tree) _ (λ action.
    behind (name_for action tree (codes "schema")) _ (λ schema.
    behind (name_for action tree (codes "table")) _ (λ table.
    behind (shows_row action tree) _ (λ columns.
    behind (fields_in tree (codes "identity")) _ (λ identity.
    behind (keys_in tree) _ (λ keys a e.
    let is : record {
      action = action;
      schema = schema;
      table = table;
      columns = columns;
      identity = identity;
      keys = keys;
      moment = None;
      size = size;
    } ≡ a = cc in
    ap (λ (r : Record). record r { moment = None }) (sym is) ∙ is))))))

abbrev IsNoRecord : List ℕ → Type 0
IsNoRecord text = (a : Record) → IsRecordText text a → ⊥

abbrev IsNotRefused : List ℕ → Type 0
IsNotRefused text = (reason : RecordWhy) → IsRefusedText text reason → ⊥

-- a text with a tree that has the shape is refused where it names no commit time
shaped : (text : List ℕ) (tree : Json) → IsJson text tree → (o : Option Record) → shape_of (length text) tree ≡ o
    → IsNoRecord text → IsNotRefused text → ⊥
shaped text tree is_json None e no_record not_refused = not_refused why.Shape (tree, is_json, e)
shaped text tree is_json (Some a) e no_record not_refused =
    not_refused why.Time (
      tree,
      is_json,
      some_is_some a (shape_of (length text) tree) e,
      λ moment time. no_record (record a { moment = moment }) (record {
        tree = tree;
        is_json = is_json;
        shape = e ∙ ap Some (sym (untimed (length text) tree a e));
        time = time;
      }),
    )

by_tree : (text : List ℕ) (o : Option Json) → tree_of text ≡ o → IsNoRecord text → IsNotRefused text → ⊥
by_tree text None e no_record not_refused =
    not_refused why.Json (λ tree is_json. none_is_none tree (tree_of text) (tree_again text tree is_json) e)
by_tree text (Some tree) e no_record not_refused =
    shaped text tree (tree_found text tree e) (shape_of (length text) tree) refl no_record not_refused

pub never_neither : (text : List ℕ) → IsNoRecord text → IsNotRefused text → ⊥
never_neither text = by_tree text (tree_of text) refl
