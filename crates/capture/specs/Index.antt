-- What the index of a capture must be, and the messages that it lays out.
use Rattle.std.specs.Prelude.{◌≡◌, ℕ, zero, suc, ◌+◌, ◌-◌, ◌*◌, ◌<◌, ◌≤◌, cond, List, [], ◌∷◌, length, take, drop, Some, None, Ok, Err, Option, Result, nat_le, nat_lt, slice_index}
use Rattle.capture.specs.declared.fault.CaptureFault.{CaptureFault}
use Rattle.capture.specs.declared.fault.CaptureFault.TheVariants.{Cut, Overlaps, Overruns}

-- the number in two bytes from `at` on, the most significant first
abbrev pub two : List ℕ → ℕ → ℕ
two bytes at = 256 * slice_index bytes at + slice_index bytes (at + 1)

-- the number in four bytes
abbrev pub four : List ℕ → ℕ → ℕ
four bytes at = 65536 * two bytes at + two bytes (at + 2)

-- how many messages the index says there are
abbrev pub count : List ℕ → ℕ
count bytes = four bytes 0

-- where message k starts, and where it ends
abbrev pub start : List ℕ → ℕ → ℕ
start bytes k = four bytes (4 + 6 * k)

abbrev pub end : List ℕ → ℕ → ℕ
end bytes k = start bytes k + two bytes (4 + 6 * k + 4)

-- the verdict on the pairs k, k + 1 .. of which there are `left`, where what is before them ends at `before`
abbrev pub judged_from : List ℕ → ℕ → ℕ → ℕ → Result ℕ CaptureFault
judged_from bytes zero k before = Ok k
judged_from bytes (suc left) k before =
    cond (nat_lt (start bytes k) before) (Err (Overlaps k))
    (cond (nat_lt (length bytes) (end bytes k)) (Err (Overruns k)) (judged_from bytes left (k + 1) (end bytes k)))

-- how many messages there are, or the first question that is answered by no
abbrev pub judged : List ℕ → Result ℕ CaptureFault
judged bytes =
    cond (nat_lt (length bytes) 4) (Err Cut)
    (cond (nat_lt (length bytes) (4 + 6 * count bytes)) (Err Cut) (judged_from bytes (count bytes) 0 (4 + 6 * count bytes)))

-- the messages lie behind the index, within the bytes, and no two share a byte
pub record Laid (bytes : List ℕ) (n : ℕ) : Type 0 where
  pub all : n ≡ count bytes
  pub behind : (k : ℕ) → k < n → 4 + 6 * n ≤ start bytes k
  pub within : (k : ℕ) → k < n → end bytes k ≤ length bytes
  pub apart : (j k : ℕ) → j < k → k < n → end bytes j ≤ start bytes k

-- the bytes of message k
abbrev pub message : List ℕ → ℕ → List ℕ
message bytes k = take (end bytes k - start bytes k) (drop (start bytes k) bytes)

-- the same, where both its entry in the index and the message end within the bytes
abbrev pub found : List ℕ → ℕ → Option (List ℕ)
found bytes k =
    cond (nat_le (10 + 6 * k) (length bytes)) (cond (nat_le (end bytes k) (length bytes)) (Some (message bytes k)) None) None

-- those of the `left` messages from k on
abbrev pub messages : List ℕ → ℕ → ℕ → List (List ℕ)
messages bytes k zero = []
messages bytes k (suc left) = message bytes k ∷ messages bytes (k + 1) left
