-- The number, the place and the pair of each refusal of a capture.
use Rattle.std.specs.Prelude.{ℕ, ◌+◌, ◌-◌, ◌*◌, ◌^◌, min}
use Rattle.text.specs.declared.fault_line.FaultLine.{FaultLine}
use Rattle.capture.specs.declared.fault.CaptureFault.{CaptureFault}
use Rattle.capture.specs.declared.fault.CaptureFault.TheVariants.{Cut, Overlaps, Overruns, StartsPast}

-- where pair k's entry stands in the index, in 64 bits
abbrev pub entry : ℕ → ℕ
entry k = min (min (k * 6) (2 ^ 64 - 1) + 4) (2 ^ 64 - 1)

-- number, place and pair
abbrev pub told : CaptureFault → ℕ × ℕ × ℕ
told Cut = (24, 0, 0)
told (Overlaps k) = (25, entry k, k)
told (Overruns k) = (26, entry k, k)
told (StartsPast k) = (27, 0, k)

-- what the line of a refused index tells
abbrev pub told_line : CaptureFault → FaultLine
told_line f = record { number = (told f).0; place = (told f).1; pair = (told f).2 }
