-- What a frame says, as a relation and as a function.
use Rattle.std.specs.Prelude.{nat_le, ok_or, Result, Ok, Err, IfOk, IfErr, IsErr, IsErrAnd}
use Rattle.std.proofs.Common.{◌≡◌, ℕ, ◌<◌, ◌≤◌, Bool, true, false, List, Option, Some, None, refl, ap, sym, ◌∙◌, length}
use Rattle.std.proofs.Common.{arith, ◌↔◌, ◌⊎◌, inl, inr, subst}
use Rattle.std.proofs.lemmas.Bool.{leb-true, le-leb, false≢true}
use Rattle.std.proofs.lemmas.Bool.Decides.{leb_tells}
use Rattle.rt_value.specs.Choice.{◌>>=◌, some_if}
use Rattle.rt_json.specs.declared.tree.Json.{Json}
use Rattle.rt_json.specs.Grammar.{IsJson}
use Rattle.rt_json.specs.Answers.{IsComputed as IsRead}
use Rattle.rt_json.specs.Machine.{tree_of}
use Rattle.rt_json.specs.declared.fault.JsonFault.{JsonFault}
use Rattle.rt_json.specs.declared.fault.JsonFault.TheVariants as json
use Rattle.rt_phx.specs.declared.message.Version.{Version}
use Rattle.rt_phx.specs.declared.message.Message.{Message}
use Rattle.rt_phx.specs.declared.fault.PhxFault.{PhxFault}
use Rattle.rt_phx.specs.declared.fault.PhxFault.TheVariants.{NoMemory, BadFrame}
use Rattle.rt_phx.specs.Answers.{fault_of, IsFaultOf, IsAnswer, IsBadFrame, IsComputed}
use Rattle.rt_phx.specs.Frame.{IsMessage, message_of, message_of_tree, frame_limit}

-- bytes are one tree at most, and the function that computes it gives it
pub record OneTree : Type 0 where
  pub computed : (bytes : List ℕ) (tree : Json) → IsJson bytes tree ↔ (tree_of bytes ≡ Some tree)

pub in_limit : (version : Version) (bytes : List ℕ) → length bytes ≤ frame_limit
    → message_of version bytes ≡ (tree_of bytes >>= message_of_tree version)
unfolding message_of
in_limit version bytes le =
    ap (λ (b : Bool). some_if b bytes >>= λ frame. tree_of frame >>= message_of_tree version)
    (le-leb (length bytes) frame_limit le)

pub past_limit : (version : Version) (bytes : List ℕ) → nat_le (length bytes) frame_limit ≡ false
    → message_of version bytes ≡ None
unfolding message_of
past_limit version bytes gt = ap (λ (b : Bool). some_if b bytes >>= λ frame. tree_of frame
    >>= message_of_tree version) gt

pub message_computed : OneTree → (version : Version) (bytes : List ℕ) (m : Message) → IsMessage version bytes m
    → message_of version bytes ≡ Some m
message_computed one version bytes m x =
    in_limit version bytes x.short ∙ ap (λ (o : Option Json). o >>= message_of_tree version)
    ((one.computed bytes x.tree).0 x.read) ∙ x.said

pub message_found : OneTree → (version : Version) (bytes : List ℕ) (m : Message) → message_of version bytes ≡ Some m
    → IsMessage version bytes m
message_found one version bytes m h = by_length (nat_le (length bytes) frame_limit) refl
  where
    by_tree : length bytes ≤ frame_limit → (o : Option Json) → tree_of bytes ≡ o → IsMessage version bytes m
    by_tree le None e = let none : None ≡ Some m = sym
        (in_limit version bytes le ∙ ap (λ (o : Option Json). o >>= message_of_tree version) e) ∙ h in cc
    by_tree le (Some tree) e =
        record {
          short = le;
          tree = tree;
          read = (one.computed bytes tree).1 e;
          said = sym (in_limit version bytes le ∙ ap (λ (o : Option Json). o >>= message_of_tree version) e) ∙ h;
        }

    by_length : (b : Bool) → nat_le (length bytes) frame_limit ≡ b → IsMessage version bytes m
    by_length true e = by_tree (leb-true (length bytes) frame_limit e) (tree_of bytes) refl
    by_length false e = let none : None ≡ Some m = sym (past_limit version bytes e) ∙ h in cc

pub once : OneTree → (version : Version) (bytes : List ℕ) (a b : Message) → IsMessage version bytes a
    → IsMessage version bytes b → a ≡ b
once one version bytes a b x y = let same : Some a ≡ Some b = sym (message_computed one version bytes a x)
    ∙ message_computed one version bytes b y in cc

-- what is computed of a tree, or of a fault in its place
pub too_long : (version : Version) (bytes : List ℕ) → frame_limit < length bytes → message_of version bytes ≡ None
too_long version bytes gt = by (leb_tells (length bytes) frame_limit)
  where
    by : ((nat_le (length bytes) frame_limit ≡ true) × (length bytes ≤ frame_limit))
        ⊎ ((nat_le (length bytes) frame_limit ≡ false) × (frame_limit < length bytes)) → message_of version bytes ≡ None
    by (inl h) = let le = h.1 in absurd (omega arith)
    by (inr h) = past_limit version bytes h.0

pub read_fault : (version : Version) (bytes : List ℕ) (r : Result Message PhxFault) (e : JsonFault)
    → length bytes ≤ frame_limit → IsRead (tree_of bytes) (Err e)
    → IsErr r × IsErrAnd r (λ fault. fault ≡ fault_of e) → IsComputed (message_of version bytes) r
read_fault version bytes (Ok m) e le is h = absurd (false≢true h.0)
read_fault version bytes (Err fault) e le is h = subst
    (λ (f : PhxFault). IsComputed (message_of version bytes) (Err f)) (sym h.1) (by e is)
  where
    none : tree_of bytes ≡ None → message_of version bytes ≡ None
    none n = in_limit version bytes le ∙ ap (λ (o : Option Json). o >>= message_of_tree version) n

    by : (e : JsonFault) → IsRead (tree_of bytes) (Err e) → IsComputed (message_of version bytes) (Err (fault_of e))
    by (json.Bad at) n = none n
    by (json.TooDeep at) n = none n
    by json.NoMemory n = tt

pub tree_read : (version : Version) (bytes : List ℕ) (r : Result Message PhxFault) (tree : Json) (o : Option Message)
    → length bytes ≤ frame_limit → tree_of bytes ≡ Some tree
    → o ≡ message_of_tree version tree → r ≡ ok_or o BadFrame → IsComputed (message_of version bytes) r
tree_read version bytes r tree o le e m is =
    subst (IsComputed (message_of version bytes)) (sym is)
    (by o (in_limit version bytes le ∙ ap (λ (t : Option Json). t >>= message_of_tree version) e ∙ sym m))
  where
    by : (o : Option Message) → message_of version bytes ≡ o → IsComputed (message_of version bytes) (ok_or o BadFrame)
    by None h = h
    by (Some m) h = h

-- a frame has one message at most, and the function that computes it gives it
pub record OneMessage : Type 0 where
  pub computed : (version : Version) (bytes : List ℕ) (message : Message)
      → IsMessage version bytes message ↔ (message_of version bytes ≡ Some message)

-- what is computed is answered
pub answer_found : OneMessage → (version : Version) (bytes : List ℕ) (r : Result Message PhxFault)
    → IsComputed (message_of version bytes) r → IfOk r (λ m. IsMessage version bytes m)
answer_found one version bytes (Ok m) h = (one.computed version bytes m).1 h
answer_found one version bytes (Err fault) h = tt

pub answer_fault : OneMessage → (version : Version) (bytes : List ℕ) (r : Result Message PhxFault)
    → IsComputed (message_of version bytes) r → IfErr r (λ fault. IsFaultOf version bytes fault)
answer_fault one version bytes (Ok m) h = tt
answer_fault one version bytes (Err NoMemory) h = tt
answer_fault one version bytes (Err BadFrame) h = λ m x. let none : None ≡ Some m = sym h
    ∙ (one.computed version bytes m).0 x in cc

pub answer_only : OneMessage → (version : Version) (bytes : List ℕ) (r : Result Message PhxFault)
    → IsComputed (message_of version bytes) r → (m : Message) → IsMessage version bytes m → IsAnswer r m
answer_only one version bytes (Ok found) h m x = let same : Some found ≡ Some m = sym h
    ∙ (one.computed version bytes m).0 x in cc
answer_only one version bytes (Err NoMemory) h m x = tt
answer_only one version bytes (Err BadFrame) h m x = let none : None ≡ Some m = sym h
    ∙ (one.computed version bytes m).0 x in cc

pub answer_bad : OneMessage → (version : Version) (bytes : List ℕ) (r : Result Message PhxFault)
    → IsComputed (message_of version bytes) r
    → ((m : Message) → IsMessage version bytes m → ⊥) → IsBadFrame r
answer_bad one version bytes (Ok m) h none = none m ((one.computed version bytes m).1 h)
answer_bad one version bytes (Err BadFrame) h none = tt
answer_bad one version bytes (Err NoMemory) h none = tt
