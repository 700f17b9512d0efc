-- Posts whose claims have run out, and what a denial is.
use Rattle.std.proofs.Common.{Bool, true, false, ◌||◌, List, [], Option, ap, ◌∙◌}
use Rattle.std.specs.Prelude.{is_none}
use Rattle.std.specs.List.{filter, filter_map, flat_map}
use Rattle.rt_value.specs.Choice.{◌>>=◌, is_at}
use Rattle.rt_catalog.specs.declared.catalog.Catalog.{Catalog}
use Rattle.rt_catalog.specs.Access.{role_named}
use Rattle.rt_private.specs.declared.right.Messages.{Messages}
use Rattle.rt_private.specs.Rights.{messages_of, right, denial_text, denial}
use Rattle.rt_entry.specs.declared.input.Input.TheVariants.{Post}
use Rattle.rt_entry.specs.declared.input.Settings.{Settings}
use Rattle.rt_entry.specs.declared.story.Part.{Part}
use Rattle.rt_entry.specs.Doings.{doings, posting_parts, may_post, may_send}
use Rattle.rt_entry.specs.Answers.{answer_of, answers_by}
use Rattle.rt_laws.specs.Private.{DenialsAreReasons, ReasonsAreDenials, NothingIsDenied, PostsRunOut, EachIsPosted}
use Rattle.rt_laws.specs.Private.{tables_by}
use Rattle.rt_catalog.proofs.Found.{bind_some}
use Rattle.rt_entry.specs.After.{found_by}

pub posts_run_out : (c : Catalog) (s : Settings) → PostsRunOut c s
unfolding answers_by doings
posts_run_out c s before slot claims messages e =
    let now = found_by c s before in
    let tables = tables_by c s before (Post slot claims messages) in
    let said : List Part = flat_map (posting_parts now) (filter (may_post c s now tables claims) messages) in
    ap (λ (b : Bool). filter_map answer_of (elim b as (λ x. List Part) [ true ↦ [] | false ↦ said ])) e

module _ (c : Catalog) where
  pub denials_are_reasons : DenialsAreReasons c
  unfolding denial
  denials_are_reasons rows role claims name use_ why e =
      let r = bind_some (messages_of c) (λ m. denial_text c m (right c rows m role claims name use_)) why e in
      record { messages = r.0; known = r.1; told = r.2 }

  pub reasons_are_denials : ReasonsAreDenials c
  unfolding denial
  reasons_are_denials rows role claims name use_ why is =
      ap (λ o. o >>= λ m. denial_text c m (right c rows m role claims name use_)) is.known ∙ is.told

  pub nothing_is_denied : NothingIsDenied c
  unfolding denial
  nothing_is_denied e rows role claims name use_ =
      ap (λ o. o >>= λ m. denial_text c m (right c rows m role claims name use_)) e

pub each_is_posted : (c : Catalog) (s : Settings) → EachIsPosted c s
each_is_posted c s e now tables claims p =
    ap (λ (o : Option Messages). is_none o || is_at (may_send c s now tables claims p.topic) (role_named c claims.role))
    e
