-- Trades: they are corrected and broken.
use Rattle.std.specs.Prelude.{ℕ, Bool, true, false, not, Ok, Result}
use Rattle.store.specs.Held.{find, puts, put, change}
use Rattle.book.specs.declared.fault.BookFault.{BookFault}
use Rattle.book.specs.declared.fault.BookFault.TheVariants.{UnknownMatch, NotLive, MatchUsed, MatchesFull}
use Rattle.book.specs.declared.value.Standing.{Standing}
use Rattle.book.specs.declared.value.Standing.TheVariants.{Live, Broken, Corrected}
use Rattle.book.specs.declared.value.Trade.{Trade}
use Rattle.book.specs.Book.{Book, then, unless, known, placed, ours, settle}
use Rattle.book.specs.Sums.{◌⊕◌, trades, untrades}

-- is the match known, and its trade this stock's?
abbrev pub trade : Book → ℕ → ℕ → Result Trade BookFault
trade b locate match = ours (find b.trades match) (λ t. t.locate) locate UnknownMatch

-- whether a trade counts
abbrev pub is_live : Standing → Bool
is_live Live = true
is_live Broken = false
is_live (Corrected n) = false

-- C makes the named trade corrected, and a live one in its stead, a step higher
abbrev pub correct : Book → (l stamp k n s p : ℕ) → Result Book BookFault
correct b l stamp k n s p =
    then (known b l) (λ x.
    then (trade b l k) (λ t.
    then (unless (not (is_live t.standing)) NotLive) (λ _.
    then (placed (puts b.trades n) (MatchUsed 19) (MatchesFull 19)) (λ _.
    Ok (record {
      phase = b.phase;
      accepted = b.accepted;
      orders = b.orders;
      trades = change
          (put b.trades n (record { locate = l; price = p; shares = s; step = t.step ⊕ 1; standing = Live }))
          k (record { locate = t.locate; price = t.price; shares = t.shares; step = t.step; standing = Corrected n });
      stocks = settle b.stocks l x stamp (trades (untrades x.sums t.price t.shares) p s);
    })))))

-- B breaks a trade for good
abbrev pub break : Book → (l stamp k : ℕ) → Result Book BookFault
break b l stamp k =
    then (known b l) (λ x.
    then (trade b l k) (λ t.
    then (unless (not (is_live t.standing)) NotLive) (λ _.
    Ok (record {
      phase = b.phase;
      accepted = b.accepted;
      orders = b.orders;
      trades = change b.trades k (record { locate = t.locate; price = t.price; shares = t.shares; step = t.step; standing = Broken });
      stocks = settle b.stocks l x stamp (untrades x.sums t.price t.shares);
    }))))
