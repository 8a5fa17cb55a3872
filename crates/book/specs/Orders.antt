-- Orders: they open, lose shares, leave and give way to others.
use Rattle.std.specs.Prelude.{ℕ, ◌-◌, true, cond, List, Some, Ok, Result, nat_le, nat_lt}
use Rattle.store.specs.Held.{Held, find, has, puts, put, change, take_out, written}
use Rattle.book.specs.declared.fault.BookFault.{BookFault}
use Rattle.book.specs.declared.fault.BookFault.TheVariants.{UnknownReference, ReferenceOpen, TooManyShares, MatchUsed, OrdersFull, MatchesFull}
use Rattle.book.specs.declared.value.Order.{Order}
use Rattle.book.specs.declared.value.Side.{Side}
use Rattle.book.specs.declared.value.Standing.TheVariants.{Live}
use Rattle.book.specs.declared.value.Sums.{Sums}
use Rattle.book.specs.Book.{Book, then, unless, known, owned, placed, ours, settle}
use Rattle.book.specs.Sums.{opens, lowers, executes, removes}

-- is the reference open, and its order this stock's?
abbrev pub order : Book → ℕ → ℕ → Result Order BookFault
order b locate reference = ours (find b.orders reference) (λ o. o.locate) locate UnknownReference

-- the order under a reference loses shares, and leaves at zero
abbrev pub reduce : Held Order → ℕ → Order → ℕ → Held Order
reduce h reference o shares =
    cond (nat_le o.shares shares)
    (take_out h reference)
    (change h reference (record { locate = o.locate; side = o.side; price = o.price; shares = o.shares - shares }))

-- and so do the stock's open shares, and its open orders if it leaves
abbrev pub reduces : Sums → Order → ℕ → Sums
reduces t o shares = lowers t shares (nat_le o.shares shares)

-- A opens an order
abbrev pub add : Book → (l stamp r : ℕ) → (by : Side) → (s p : ℕ) → (symbol : List ℕ) → Result Book BookFault
add b l stamp r by s p symbol =
    then (known b l) (λ x.
    then (owned x symbol 24) (λ _.
    then (placed (puts b.orders r) (ReferenceOpen 11) OrdersFull) (λ _.
    Ok (record {
      phase = b.phase;
      accepted = b.accepted;
      trades = b.trades;
      stocks = settle b.stocks l x stamp (opens x.sums s);
      orders = put b.orders r (record { locate = l; side = by; price = p; shares = s });
    }))))

-- E lowers an order and makes a live trade, with the order's price
abbrev pub execute : Book → (l stamp r s k : ℕ) → Result Book BookFault
execute b l stamp r s k =
    then (known b l) (λ x.
    then (order b l r) (λ o.
    then (unless (nat_lt o.shares s) TooManyShares) (λ _.
    then (placed (puts b.trades k) (MatchUsed 23) (MatchesFull 23)) (λ _.
    Ok (record {
      phase = b.phase;
      accepted = b.accepted;
      trades = put b.trades k (record { locate = l; price = o.price; shares = s; step = 0; standing = Live });
      orders = reduce b.orders r o s;
      stocks = settle b.stocks l x stamp (reduces (executes x.sums o.price s) o s);
    })))))

-- X lowers an order
abbrev pub cancel : Book → (l stamp r s : ℕ) → Result Book BookFault
cancel b l stamp r s =
    then (known b l) (λ x.
    then (order b l r) (λ o.
    then (unless (nat_lt o.shares s) TooManyShares) (λ _.
    Ok (record {
      phase = b.phase;
      accepted = b.accepted;
      trades = b.trades;
      orders = reduce b.orders r o s;
      stocks = settle b.stocks l x stamp (reduces (removes x.sums s) o s);
    }))))

-- D takes an order out
abbrev pub delete : Book → (l stamp r : ℕ) → Result Book BookFault
delete b l stamp r =
    then (known b l) (λ x.
    then (order b l r) (λ o.
    Ok (record {
      phase = b.phase;
      accepted = b.accepted;
      trades = b.trades;
      orders = take_out b.orders r;
      stocks = settle b.stocks l x stamp (lowers (removes x.sums o.shares) o.shares true);
    })))

-- U takes the original out and opens the new one in its place, with the same locate and side
abbrev pub replace : Book → (l stamp r n s p : ℕ) → Result Book BookFault
replace b l stamp r n s p =
    then (known b l) (λ x.
    then (order b l r) (λ o.
    then (unless (has b.orders n) (ReferenceOpen 19)) (λ _.
    Ok (record {
      phase = b.phase;
      accepted = b.accepted;
      trades = b.trades;
      orders = written (take_out b.orders r) n (Some (record { locate = o.locate; side = o.side; price = p; shares = s }));
      stocks = settle b.stocks l x stamp (opens (lowers (removes x.sums o.shares) o.shares true) s);
    }))))
