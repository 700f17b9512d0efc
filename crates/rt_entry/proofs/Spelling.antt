-- Spelling goes on in the version that stands behind what was spelled.
use Rattle.std.proofs.Common.{◌≡◌, List, [], ◌∷◌, ◌++◌, refl, ap}
use Rattle.rt_phx.specs.declared.message.Version.{Version}
use Rattle.rt_phx.specs.Frame.{spelled}
use Rattle.rt_entry.specs.declared.answer.Answer.{Answer}
use Rattle.rt_entry.specs.declared.answer.Answer.TheVariants as a
use Rattle.rt_entry.specs.declared.answer.Item.{Item}
use Rattle.rt_entry.specs.declared.answer.Item.TheVariants as item
use Rattle.rt_entry.specs.Answers.{spell}
use Rattle.rt_entry.specs.Spelling.{version_after}

pub spell_append : (v : Version) (xs ys : List Answer)
    → spell v (xs ++ ys) ≡ spell v xs ++ spell (version_after v xs) ys
spell_append v [] ys = refl
spell_append v (a.Opened w ∷ xs) ys = spell_append w xs ys
spell_append v (a.Says m ∷ xs) ys = ap (λ (is : List Item). item.Message (spelled v m) ∷ is) (spell_append v xs ys)
spell_append v (a.Ended name ∷ xs) ys = ap (λ (is : List Item). item.End name ∷ is) (spell_append v xs ys)

pub version_append : (v : Version) (xs ys : List Answer)
    → version_after v (xs ++ ys) ≡ version_after (version_after v xs) ys
version_append v [] ys = refl
version_append v (a.Opened w ∷ xs) ys = version_append w xs ys
version_append v (a.Says m ∷ xs) ys = version_append v xs ys
version_append v (a.Ended name ∷ xs) ys = version_append v xs ys
