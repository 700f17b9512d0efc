-- How spelling goes on behind answers.
use Rattle.std.specs.Prelude.{◌≡◌, ℕ, List, [], ◌∷◌, ◌++◌}
use Rattle.rt_phx.specs.declared.message.Version.{Version}
use Rattle.rt_entry.specs.declared.answer.Answer.{Answer}
use Rattle.rt_entry.specs.declared.answer.Answer.TheVariants.{Opened as opened, Says as says, Ended as ended}
use Rattle.rt_entry.specs.Answers.{Answers, told, spell}

-- the version of the last opening among answers, and without one that before them
abbrev pub version_after : Version → List Answer → Version
version_after v [] = v
version_after v (opened w ∷ rest) = version_after w rest
version_after v (says m ∷ rest) = version_after v rest
version_after v (ended name ∷ rest) = version_after v rest

-- answers behind others are spelled in the version that the others leave
abbrev pub SpellingGoesOn : Type 0
SpellingGoesOn = (v : Version) (xs ys : List Answer)
    → spell v (xs ++ ys) ≡ spell v xs ++ spell (version_after v xs) ys

abbrev pub VersionsGoOn : Type 0
VersionsGoOn = (v : Version) (xs ys : List Answer)
    → version_after v (xs ++ ys) ≡ version_after (version_after v xs) ys

-- the answers of a slot among answers, and behind them
abbrev pub ToldGoesOn : Type 0
ToldGoesOn = (slot : ℕ) (xs ys : Answers) → told slot (xs ++ ys) ≡ told slot xs ++ told slot ys
