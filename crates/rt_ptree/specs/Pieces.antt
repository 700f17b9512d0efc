-- What stands in the place of a part, as a list.
use Rattle.std.specs.Prelude.{List, [], ◌∷◌}
use Rattle.rt_ptree.specs.declared.part.Pieces.{Pieces}
use Rattle.rt_ptree.specs.declared.part.Pieces.TheVariants.{None, One, Two}

abbrev pub pieces_list : {P : Type 0} → P → Pieces P → List P
pieces_list a None = []
pieces_list a One = a ∷ []
pieces_list a (Two b) = a ∷ b ∷ []
