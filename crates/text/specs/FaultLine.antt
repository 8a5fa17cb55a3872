-- The line that tells of a refused capture.
use Rattle.std.specs.Prelude.{ℕ, List, ◌++◌, codes, decimal}

-- "fault N place P pair K", and the end of the line
abbrev pub fault_line : ℕ → ℕ → ℕ → List ℕ
fault_line number place pair =
    codes "fault " ++ (decimal number ++ (codes " place " ++ (decimal place ++ (codes " pair " ++ (decimal pair ++ codes "\n")))))
