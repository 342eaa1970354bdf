-- Tasks in the order in which a queue keeps them.
use Rattle.std.specs.Prelude.{◌≡◌, List, [], ◌∷◌, false}
use Rattle.std.specs.List.{AllByRecursion}
use Rattle.bq_disc.specs.Tasks.{Task, runs_before}

-- none of the tasks runs before x
abbrev pub NoneRunsBefore : Task → List Task → Type 0
NoneRunsBefore x xs = AllByRecursion (λ (y : Task). runs_before y x ≡ false) xs

-- the tasks are by rising (v, id)
abbrev pub IsRising : List Task → Type 0
IsRising [] = Unit {0}
IsRising (x ∷ xs) = NoneRunsBefore x xs × IsRising xs
