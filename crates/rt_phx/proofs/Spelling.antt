-- The spelling of a message, part by part, and that it is a frame.
use Rattle.std.specs.Prelude.{IsUtf8, codes, Result, Ok, Err, IfOk}
use Rattle.std.proofs.lemmas.Str.{IsUtf8-nil}
use Rattle.std.proofs.Common.{◌≡◌, ℕ, List, [], ◌∷◌, ◌++◌, Option, Some, refl, ap, sym, ◌∙◌, subst, append_assoc}
use Rattle.rt_value.specs.Choice.{◌>>=◌}
use Rattle.rt_json.specs.declared.tree.Json.{Json, Null, Num, Text}
use Rattle.rt_json.specs.declared.tree.Json.TheVariants.{outs-Null, outs-Text, outs-Num, outs-List, outs-Object}
use Rattle.rt_json.specs.declared.tree.named.Member.{Member}
use Rattle.rt_json.specs.Fits.{FitsWithin, FitsOver}
use Rattle.rt_json.specs.Grammar.{IsJson, max_levels}
use Rattle.rt_json.specs.Trees.{field}
use Rattle.rt_json.specs.Written.{written, written_byte, quoted}
use Rattle.rt_json.proofs.Lookups.{list_items}
use Rattle.rt_json.proofs.Spelled.{object_written, list_written}
use Rattle.rt_phx.specs.declared.message.Message.{Message}
use Rattle.rt_phx.specs.declared.message.Version.TheVariants.{V1, V2}
use Rattle.rt_phx.specs.Frame.{IsMessage, ref_of, message, message_of_five, spelled, tree_of_message}
use Rattle.rt_phx.specs.Fits.{IsRef, FitsFrame}
use Rattle.rt_phx.proofs.Reading.{object_says}

-- four pieces and five, one behind the other
four_in_row : (n1 n2 n3 n4 a b c d last : List ℕ)
    → ((n1 ++ a) ++ ((n2 ++ b) ++ ((n3 ++ c) ++ ((n4 ++ d) ++ [])))) ++ last
    ≡ (((((((n1 ++ a) ++ n2) ++ b) ++ n3) ++ c) ++ n4) ++ d) ++ last
four_in_row n1 n2 n3 n4 a b c d last = simp append_assoc

five_in_row : (n1 n2 n3 n4 n5 a b c d e last : List ℕ)
    → ((n1 ++ a) ++ ((n2 ++ b) ++ ((n3 ++ c) ++ ((n4 ++ d) ++ ((n5 ++ e) ++ []))))) ++ last
    ≡ (((((((((n1 ++ a) ++ n2) ++ b) ++ n3) ++ c) ++ n4) ++ d) ++ n5) ++ e) ++ last
five_in_row n1 n2 n3 n4 n5 a b c d e last = simp append_assoc

pub object_spelled : (m : Message)
    → spelled V1 m ≡ (((((((codes "{\"topic\":" ++ quoted m.topic) ++ codes ",\"event\":") ++ quoted m.event)
    ++ codes ",\"payload\":") ++ written m.payload) ++ codes ",\"ref\":") ++ written m.reference) ++ 125 ∷ []
unfolding written_byte
object_spelled m =
    object_written (field (codes "topic") (Text m.topic) ∷ field (codes "event") (Text m.event)
    ∷ field (codes "payload") m.payload ∷ field (codes "ref") m.reference ∷ [])
    ∙ four_in_row (codes "{\"topic\":") (codes ",\"event\":") (codes ",\"payload\":") (codes ",\"ref\":")
    (quoted m.topic) (quoted m.event) (written m.payload) (written m.reference) (125 ∷ [])

pub list_spelled : (m : Message)
    → spelled V2 m ≡ (((((((((91 ∷ [] ++ written m.join_ref) ++ 44 ∷ []) ++ written m.reference) ++ 44 ∷ [])
    ++ quoted m.topic) ++ 44 ∷ []) ++ quoted m.event) ++ 44 ∷ []) ++ written m.payload) ++ 93 ∷ []
list_spelled m =
    list_written (m.join_ref ∷ m.reference ∷ Text m.topic ∷ Text m.event ∷ m.payload ∷ [])
    ∙ five_in_row (91 ∷ []) (44 ∷ []) (44 ∷ []) (44 ∷ []) (44 ∷ []) (written m.join_ref) (written m.reference)
    (quoted m.topic) (quoted m.event) (written m.payload) (93 ∷ [])

-- what is put behind the other is the spelling
pub object_out : (m : Message) (o0 o1 o2 o3 o4 : List ℕ) → o0 ≡ []
    → o1 ≡ (o0 ++ codes "{\"topic\":") ++ quoted m.topic → o2 ≡ (o1 ++ codes ",\"event\":") ++ quoted m.event
    → o3 ≡ (o2 ++ codes ",\"payload\":") ++ written m.payload → o4 ≡ (o3 ++ codes ",\"ref\":") ++ written m.reference
    → o4 ++ 125 ∷ [] ≡ spelled V1 m
object_out m o0 o1 o2 o3 o4 e0 e1 e2 e3 e4 =
    let f1 : o1 ≡ codes "{\"topic\":" ++ quoted m.topic = e1
    ∙ ap (λ (o : List ℕ). (o ++ codes "{\"topic\":") ++ quoted m.topic) e0 in
    let f2 = e2 ∙ ap (λ (o : List ℕ). (o ++ codes ",\"event\":") ++ quoted m.event) f1 in
    let f3 = e3 ∙ ap (λ (o : List ℕ). (o ++ codes ",\"payload\":") ++ written m.payload) f2 in
    let f4 = e4 ∙ ap (λ (o : List ℕ). (o ++ codes ",\"ref\":") ++ written m.reference) f3 in
    ap (λ (o : List ℕ). o ++ 125 ∷ []) f4 ∙ sym (object_spelled m)

pub list_out : (m : Message) (o0 o1 o2 o3 o4 o5 : List ℕ) → o0 ≡ [] → o1 ≡ (o0 ++ 91 ∷ []) ++ written m.join_ref
    → o2 ≡ (o1 ++ 44 ∷ []) ++ written m.reference
    → o3 ≡ (o2 ++ 44 ∷ []) ++ quoted m.topic → o4 ≡ (o3 ++ 44 ∷ []) ++ quoted m.event
    → o5 ≡ (o4 ++ 44 ∷ []) ++ written m.payload → o5 ++ 93 ∷ [] ≡ spelled V2 m
list_out m o0 o1 o2 o3 o4 o5 e0 e1 e2 e3 e4 e5 =
    let f1 : o1 ≡ 91 ∷ [] ++ written m.join_ref = e1 ∙ ap (λ (o : List ℕ). (o ++ 91 ∷ []) ++ written m.join_ref) e0 in
    let f2 = e2 ∙ ap (λ (o : List ℕ). (o ++ 44 ∷ []) ++ written m.reference) f1 in
    let f3 = e3 ∙ ap (λ (o : List ℕ). (o ++ 44 ∷ []) ++ quoted m.topic) f2 in
    let f4 = e4 ∙ ap (λ (o : List ℕ). (o ++ 44 ∷ []) ++ quoted m.event) f3 in
    let f5 = e5 ∙ ap (λ (o : List ℕ). (o ++ 44 ∷ []) ++ written m.payload) f4 in
    ap (λ (o : List ℕ). o ++ 93 ∷ []) f5 ∙ sym (list_spelled m)

pub no_bytes : (o : List ℕ) → o ≡ [] → IsUtf8 o
no_bytes o e = subst IsUtf8 (sym e) IsUtf8-nil

-- what stands behind UTF-8 is UTF-8
pub utf8_behind : {X E : Type 0} (r : Result X E) (bytes : X → List ℕ) (before : List ℕ) → IsUtf8 before
    → IfOk r (λ all. IsUtf8 before → IsUtf8 (bytes all)) → IfOk r (λ all. IsUtf8 (bytes all))
utf8_behind (Ok all) bytes before u h = h u
utf8_behind (Err e) bytes before u h = tt

-- a ref is read as itself, and fits
pub ref_same : (r : Json) → IsRef r → ref_of r ≡ Some r
ref_same Null h = refl
ref_same (Text t) h = refl
ref_same (Num n) h = refl
ref_same _ h = absurd h

text_fits : (t : List ℕ) → IsUtf8 t → FitsWithin 63 (Text t)
text_fits t h = subst (FitsOver (FitsWithin 62)) (sym (outs-Text t)) h

ref_fits : (r : Json) → IsRef r → FitsWithin 63 r
ref_fits Null h = subst (FitsOver (FitsWithin 62)) (sym outs-Null) h
ref_fits (Text t) h = text_fits t h
ref_fits (Num n) h = subst (FitsOver (FitsWithin 62)) (sym (outs-Num n)) h
ref_fits _ h = absurd h

-- what is written of the tree is read as the tree
pub record Again : Type 0 where
  pub read : (tree : Json) → FitsWithin max_levels tree → IsJson (written tree) tree

list_fits : (m : Message) → FitsFrame V2 m → FitsWithin max_levels (tree_of_message V2 m)
list_fits m f =
    let items : List Json = m.join_ref ∷ m.reference ∷ Text m.topic ∷ Text m.event ∷ m.payload ∷ [] in
    subst (FitsOver (FitsWithin 63)) (sym (outs-List items)) (
      ref_fits m.join_ref f.join_ref,
      (
        ref_fits m.reference f.reference,
        (text_fits m.topic f.topic, (text_fits m.event f.event, (f.payload, tt))),
      ),
    )

pub names_fit : IsUtf8 (codes "topic") × IsUtf8 (codes "event") × IsUtf8 (codes "payload") × IsUtf8 (codes "ref")
unfolding lib.Utf8.encode
names_fit = (
  (codes "topic", (refl, refl)),
  (codes "event", (refl, refl)),
  (codes "payload", (refl, refl)),
  (codes "ref", (refl, refl)),
)

object_fits : (m : Message) → FitsFrame V1 m → FitsWithin max_levels (tree_of_message V1 m)
object_fits m f =
    let members : List Member = field (codes "topic") (Text m.topic) ∷ field (codes "event") (Text m.event)
    ∷ field (codes "payload") m.payload ∷ field (codes "ref") m.reference ∷ [] in
    subst (FitsOver (FitsWithin 63)) (sym (outs-Object members)) (
      (names_fit.0, text_fits m.topic f.topic),
      (
        (names_fit.1, text_fits m.event f.event),
        ((names_fit.2, f.payload), ((names_fit.3, ref_fits m.reference f.reference), tt)),
      ),
    )

list_said : (m : Message) → FitsFrame V2 m → message_of_five
    (m.join_ref ∷ m.reference ∷ Text m.topic ∷ Text m.event ∷ m.payload ∷ []) ≡ Some m
list_said m f =
    ap (λ (o : Option Json). o >>= λ a. ref_of m.reference >>= λ b. Some (message a b m.topic m.event m.payload))
    (ref_same m.join_ref f.join_ref)
    ∙ ap (λ (o : Option Json). o >>= λ b. Some (message m.join_ref b m.topic m.event m.payload))
    (ref_same m.reference f.reference)

pub list_again : Again → (m : Message) → FitsFrame V2 m → IsMessage V2 (spelled V2 m) m
list_again again m f =
    record {
      short = f.short;
      tree = tree_of_message V2 m;
      read = again.read (tree_of_message V2 m) (list_fits m f);
      said =
          ap (λ (o : Option (List Json)). o >>= message_of_five)
          (list_items (m.join_ref ∷ m.reference ∷ Text m.topic ∷ Text m.event ∷ m.payload ∷ []))
          ∙ list_said m f;
    }

pub object_again : Again → (m : Message) → FitsFrame V1 m → IsMessage V1 (spelled V1 m) (record m { join_ref = Null })
object_again again m f =
    record {
      short = f.short;
      tree = tree_of_message V1 m;
      read = again.read (tree_of_message V1 m) (object_fits m f);
      said =
          object_says (field (codes "topic") (Text m.topic) ∷ field (codes "event") (Text m.event)
          ∷ field (codes "payload") m.payload ∷ field (codes "ref") m.reference ∷ [])
          ∙ ap (λ (o : Option Json). o >>= λ b. Some (message Null b m.topic m.event m.payload))
          (ref_same m.reference f.reference);
    }
