-- What a client holds by what its slot was given.
use Rattle.std.proofs.Common.{◌≡◌, ℕ, suc, Bool, List, [], ◌∷◌, ◌++◌, map, Option, Some, None, refl, sym, ap, subst}
use Rattle.std.proofs.Common.{◌∙◌, arith}
use Rattle.std.specs.Prelude.{codes, unwrap_or, All, IsPermutation}
use Rattle.std.specs.List.{filter, filter_map, cons_option, AllByRecursion}
use Rattle.std.specs.Str.{bytes_eq}
use Rattle.std.proofs.lemmas.List.Elements.{filter-append, filter_map-append}
use Rattle.rt_phx.proofs.Spelling.{names_fit, ref_same}
use Rattle.rt_value.specs.Choice.{◌>>=◌}
use Rattle.rt_json.specs.declared.tree.Json.{Json, Null, Num, Text}
use Rattle.rt_json.specs.declared.tree.Json.TheVariants.{outs-Null, outs-Text, outs-Num, outs-List, outs-Object}
use Rattle.rt_json.specs.declared.tree.Json.TheVariants as j
use Rattle.rt_json.specs.declared.tree.named.Member.{Member}
use Rattle.rt_json.specs.Fits.{FitsWithin, FitsOver}
use Rattle.rt_json.specs.Grammar.{IsWithin}
use Rattle.rt_json.specs.Lookup.{member_of}
use Rattle.rt_json.specs.Trees.{field, text_of}
use Rattle.rt_json.specs.Written.{written}
use Rattle.rt_phx.specs.declared.message.Message.{Message}
use Rattle.rt_phx.specs.declared.message.Version.{Version}
use Rattle.rt_phx.specs.declared.message.Version.TheVariants.{V1, V2}
use Rattle.rt_phx.specs.Fits.{IsRef, IsPosted}
use Rattle.rt_phx.specs.Frame.{ref_of, no_members, message, message_of_five, message_of_tree, spelled, tree_of_message}
use Rattle.rt_catalog.specs.declared.catalog.Catalog.{Catalog}
use Rattle.rt_entry.specs.declared.input.Input.{Input}
use Rattle.rt_entry.specs.declared.input.Input.TheVariants as input
use Rattle.rt_entry.specs.declared.input.Settings.{Settings}
use Rattle.rt_entry.specs.declared.story.Channel.{Channel}
use Rattle.rt_entry.specs.declared.answer.Item.{Item}
use Rattle.rt_entry.specs.declared.answer.Item.TheVariants as item
use Rattle.rt_entry.specs.Messages.{shown_meta}
use Rattle.rt_entry.specs.Presence.{after_message, client_view, present_behind, last_items, as_items, messages_to}
use Rattle.rt_entry.specs.Presence.{message_in, messages_on, IsReader, said_since, given_after, given_of}
use Rattle.rt_entry.specs.Presence.{OpeningReadersAgree, ReadersAgree}
use Rattle.rt_entry.specs.Readable.{payload_levels, IsReadable, IsOfLines}
use Rattle.rt_laws.specs.Told.{AnswersAreReadable}
use Rattle.rt_value.proofs.Plain.{AllOf, filter_map_swap}
use Rattle.rt_laws.proofs.Fitting.{null_fits, text_fits, number_fits}
use Rattle.rt_laws.proofs.Doing.{InputFits}
use Rattle.rt_laws.proofs.Telling.{said_fits, answer_fits}
use Rattle.rt_laws.proofs.Recorded.{all_of_lines}
use Rattle.rt_laws.proofs.Holding.{short_before, openings_agree, given_agree}
use Rattle.rt_json.proofs.Lookups.{object_at, list_items}
use Rattle.rt_presence.specs.Trees.{Held}
use Rattle.rt_laws.proofs.Turns.{view_append}

-- what is read of a message: version 1 doesn't write the join_ref
abbrev read_as : Version → Message → Message
read_as V1 m = record m { join_ref = Null }
read_as V2 m = m

ref_fits : (levels : ℕ) (r : Json) → IsRef r → FitsWithin levels r
ref_fits levels Null h = null_fits levels
ref_fits levels (Text t) h = text_fits levels t h
ref_fits levels (Num n) h = number_fits levels n h
ref_fits levels _ h = absurd h

abbrev five : Message → List Json
five m = m.join_ref ∷ m.reference ∷ Text m.topic ∷ Text m.event ∷ m.payload ∷ []

abbrev four : Message → List Member
four m = field (codes "topic") (Text m.topic) ∷ field (codes "event") (Text m.event) ∷ field (codes "payload") m.payload
    ∷ field
    (codes "ref") m.reference ∷ []

tree_fits : (levels : ℕ) (v : Version) (m : Message) → IsReadable levels m
    → FitsWithin (suc levels) (tree_of_message v m)
tree_fits n V1 m f =
    subst (FitsOver (FitsWithin n)) (sym (outs-Object (four m))) (
      (names_fit.0, text_fits n m.topic f.topic),
      (
        (names_fit.1, text_fits n m.event f.event),
        ((names_fit.2, f.payload), ((names_fit.3, ref_fits n m.reference f.reference), tt)),
      ),
    )
tree_fits n V2 m f =
    subst (FitsOver (FitsWithin n)) (sym (outs-List (five m))) (
      ref_fits n m.join_ref f.join_ref,
      (
        ref_fits n m.reference f.reference,
        (text_fits n m.topic f.topic, (text_fits n m.event f.event, (f.payload, tt))),
      ),
    )

tree_says : (levels : ℕ) (v : Version) (m : Message) → IsReadable levels m
    → message_of_tree v (tree_of_message v m) ≡ Some (read_as v m)
tree_says levels V1 m f =
    let tree = j.Object (four m) in
    let out : Option Json → Option Json → Option Json → Option Json → Option Json
    → Option Message = λ topic event join_ref reference payload.
    (topic >>= text_of) >>= λ t. (event >>= text_of) >>= λ e. ref_of (unwrap_or join_ref Null) >>= λ a.
    ref_of (unwrap_or reference Null) >>= λ b.
    Some (message a b t e (unwrap_or payload no_members)) in
    let at : List ℕ → Option Json = member_of tree in
    ap (λ (o : Option Json). out o (at (codes "event")) (at (codes "join_ref")) (at (codes "ref"))
    (at (codes "payload")))
    (object_at (four m) (codes "topic"))
    ∙ ap (λ (o : Option Json). out (Some (Text m.topic)) o (at (codes "join_ref")) (at (codes "ref"))
    (at (codes "payload")))
    (object_at (four m) (codes "event"))
    ∙ ap (λ (o : Option Json). out (Some (Text m.topic)) (Some (Text m.event)) o (at (codes "ref"))
    (at (codes "payload")))
    (object_at (four m) (codes "join_ref"))
    ∙ ap (λ (o : Option Json). out (Some (Text m.topic)) (Some (Text m.event)) None o (at (codes "payload")))
    (object_at (four m) (codes "ref"))
    ∙ ap (λ (o : Option Json). out (Some (Text m.topic)) (Some (Text m.event)) None (Some m.reference) o)
    (object_at (four m) (codes "payload"))
    ∙ ap (λ (o : Option Json). o >>= λ b. Some (message Null b m.topic m.event m.payload))
    (ref_same m.reference f.reference)
tree_says levels V2 m f =
    ap (λ (o : Option (List Json)). o >>= message_of_five) (list_items (five m))
    ∙ ap (λ (o : Option Json). o >>= λ a. ref_of m.reference >>= λ b. Some (message a b m.topic m.event m.payload))
    (ref_same m.join_ref f.join_ref)
    ∙ ap (λ (o : Option Json). o >>= λ b. Some (message m.join_ref b m.topic m.event m.payload))
    (ref_same m.reference f.reference)

same_topic : (v : Version) (topic : List ℕ) (ms : List Message)
    → filter (λ (m : Message). bytes_eq m.topic topic) (map (read_as v) ms)
    ≡ map (read_as v) (filter (λ (m : Message). bytes_eq m.topic topic) ms)
same_topic V1 topic ms = filter_map_swap (λ (m : Message). bytes_eq m.topic topic) (read_as V1) ms
same_topic V2 topic ms = filter_map_swap (λ (m : Message). bytes_eq m.topic topic) (read_as V2) ms

same_view : (v : Version) (held : List Held) (ms : List Message)
    → client_view held (map (read_as v) ms) ≡ client_view held ms
same_view v held [] = refl
same_view V1 held (m ∷ ms) = same_view V1 (after_message held m) ms
same_view V2 held (m ∷ ms) = same_view V2 (after_message held m) ms

-- what is written of a tree is the tree's text
pub record IsWritten (levels : ℕ) : Type 0 where
  pub text : (tree : Json) → FitsWithin (suc levels) tree → IsWithin (suc levels) tree (written tree)

module _ (levels : ℕ) (read : List ℕ → Option Json) (reader : IsReader (suc levels) read)
    (writes : IsWritten levels) where
  reads_one : (v : Version) (m : Message) → IsReadable levels m → message_in read v (item.Message (spelled v m))
      ≡ Some (read_as v m)
  reads_one v m f =
      let tree = tree_of_message v m in
      ap (λ (o : Option Json). o >>= message_of_tree v)
      (reader.reads (written tree) tree (writes.text tree (tree_fits levels v m f)))
      ∙ tree_says levels v m f

  reads_all : (v : Version) (ms : List Message) → AllByRecursion (IsReadable levels) ms
      → filter_map (message_in read v) (as_items v ms) ≡ map (read_as v) ms
  reads_all v [] f = refl
  reads_all v (m ∷ ms) f =
      ap (λ (o : Option Message). cons_option o (filter_map (message_in read v) (as_items v ms))) (reads_one v m f.0)
      ∙ ap (λ (xs : List Message). read_as v m ∷ xs) (reads_all v ms f.1)

  agrees_at : (given front : List Item) (said : List Message) (ch : Channel) (v : Version) (present : List Held)
      → given ≡ front ++ as_items v said
      → AllByRecursion (IsReadable levels) said
      → ((held : List Held) → IsPermutation (client_view held (messages_to ch said)) present)
      → IsPermutation (client_view [] (messages_on read v ch given)) present
  agrees_at given front said ch v present e readable holds =
      let on : Message → Bool = λ m. bytes_eq m.topic ch.topic in
      let early = messages_to ch (filter_map (message_in read v) front) in
      let held = client_view [] early in
      let heard : messages_on read v ch given ≡ early ++ map (read_as v) (messages_to ch said) =
      ap (messages_on read v ch) e
      ∙ ap (messages_to ch) (filter_map-append (message_in read v) front (as_items v said)
      ∙ ap (λ (ms : List Message). filter_map (message_in read v) front ++ ms) (reads_all v said readable))
      ∙ filter-append on (filter_map (message_in read v) front) (map (read_as v) said)
      ∙ ap (λ (ms : List Message). early ++ ms) (same_topic v ch.topic said) in
      let is : client_view [] (messages_on read v ch given) ≡ client_view held (messages_to ch said) =
      ap (client_view []) heard ∙ view_append [] early (map (read_as v) (messages_to ch said))
      ∙ same_view v held (messages_to ch said) in
      let P : List Held → Type 0 = λ x. IsPermutation x present in
      subst P (sym is) (holds held)

all_given : {A : Type 0} (B : A → Type 0) (xs : List A) → All B xs → AllOf B xs
all_given B [] a = tt
all_given B (x ∷ xs) a = (a 0 x (omega arith), all_given B xs (λ k d lt. a (suc k) d (omega arith)))

-- changes of lines can be told
lines_fit : (c : Catalog) (i : Input) → IsOfLines c i → InputFits i
lines_fit c (input.Poll changes) lines = all_of_lines c changes lines
lines_fit c (input.Opened slot version claims) lines = tt
lines_fit c (input.Post slot claims ps) lines = all_given IsPosted ps lines
lines_fit c (input.Frame slot bytes) lines = tt
lines_fit c (input.Gone slot) lines = tt
lines_fit c (input.Tick n) lines = tt
lines_fit c input.Stop lines = tt

all_lines_fit : (c : Catalog) (inputs : List Input) → AllByRecursion (IsOfLines c) inputs → AllOf InputFits inputs
all_lines_fit c [] lines = tt
all_lines_fit c (i ∷ inputs) lines = (lines_fit c i lines.0, all_lines_fit c inputs lines.1)

pub opening_readers : (c : Catalog) (s : Settings) → IsWritten payload_levels → OpeningReadersAgree c s
opening_readers c s writes names few steps later before ch o number place read taken lines u reader =
    let h = openings_agree c s few steps later before ch o number place taken u in
    let short = short_before c s few steps later before taken in
    agrees_at payload_levels read reader writes (given_of c s steps ch.slot number place) h.front
    (said_since c s ch before) ch o.version
    (map shown_meta (present_behind c s before ch.topic)) h.whole
    (said_fits c s names ch before short (all_lines_fit c before lines)) h.holds

pub readers_agree : (c : Catalog) (s : Settings) → IsWritten payload_levels → ReadersAgree c s
readers_agree c s writes names few steps later before ch o read taken lines u reader =
    let h = given_agree c s few steps later before ch o taken u in
    let short = short_before c s few steps later before taken in
    agrees_at payload_levels read reader writes (last_items (given_after c s steps ch.slot)) h.front
    (said_since c s ch before) ch o.version
    (map shown_meta (present_behind c s before ch.topic)) h.whole
    (said_fits c s names ch before short (all_lines_fit c before lines)) h.holds

pub answers_readable : (c : Catalog) (s : Settings) → AnswersAreReadable c s
answers_readable c s names before i slot m short lines there =
    answer_fits c s names before i slot m short (all_lines_fit c (i ∷ before) lines) there
