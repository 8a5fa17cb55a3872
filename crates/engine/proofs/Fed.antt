-- What feeding answers and leaves, once the bytes are decoded.
use Rattle.std.proofs.Common.{◌≡◌, ℕ, ◌+◌, ◌<◌, ◌≤◌, List, Ok, Err, Result, sym, refl, ap, ◌∙◌, arith}
use Rattle.std.proofs.lemmas.Bool.{lt-ltb, le-ltb}
use Rattle.wire.specs.Table.{Row, Value}
use Rattle.wire.specs.declared.message.Feed.TheVariants.{Depth}
use Rattle.decode.specs.Decoding.{decoding}
use Rattle.book.specs.declared.fault.BookFault.{BookFault}
use Rattle.book.specs.declared.fault.BookFault.TheVariants.{TooMany}
use Rattle.book.specs.declared.fault.FeedFault.{FeedFault}
use Rattle.book.specs.declared.fault.FeedFault.TheVariants.{Book as OfBook}
use Rattle.book.specs.Book.{Book, answer, after}
use Rattle.book.specs.Message.{heard}
use Rattle.book.specs.Feed.{act, counted, lifted, fed_as, fed, count}

-- the book b' with one message more accepted than b
abbrev pub raised : Book → Book → Book
raised b b' = record { phase = b'.phase; accepted = b.accepted + 1; stocks = b'.stocks; orders = b'.orders; trades = b'.trades }

-- what a call of feeding ensures
abbrev pub Fed : Book → List ℕ → Result ℕ FeedFault → Book → Type 0
Fed b bytes r b' = (r ≡ count (fed b bytes)) × (b' ≡ after b (fed b bytes))

over : (b : Book) (x : Result Book BookFault) → 1_000_000_000 ≤ b.accepted → lifted (counted b x) ≡ Err (OfBook TooMany)
over b x h = rw (le-ltb b.accepted 1_000_000_000 h)

refused_as : (b b' : Book) (f : BookFault) (x : Result Book BookFault) → b.accepted < 1_000_000_000 → Err f ≡ answer x → b' ≡ after b x →
    (Err (OfBook f) ≡ count (lifted (counted b x))) × (b' ≡ after b (lifted (counted b x)))
refused_as b b' f (Ok y) l p q = absurd (let z : ◌≡◌ {A = ℕ} 0 1 = cc in omega arith)
refused_as b b' f (Err g) l p q =
    let e : f ≡ g = cc in
    rw (lt-ltb b.accepted 1_000_000_000 l) (ap (λ (h : BookFault). Err (OfBook h)) e, q)

taken_as : (b b' : Book) (x : Result Book BookFault) → b.accepted < 1_000_000_000 → Ok tt ≡ answer x → b' ≡ after b x →
    (Ok (b.accepted + 1) ≡ count (lifted (counted b x))) × (raised b b' ≡ after b (lifted (counted b x)))
taken_as b b' (Err g) l p q = absurd (let z : ◌≡◌ {A = ℕ} 0 1 = cc in omega arith)
taken_as b b' (Ok y) l p q = rw (lt-ltb b.accepted 1_000_000_000 l) (refl, ap (raised b) q)

module _ (b : Book) (bytes : List ℕ) (m : Row × List Value) (e : Ok m ≡ decoding Depth bytes) where
  said : fed b bytes ≡ lifted (counted b (act b (heard m)))
  said = ap (fed_as b) (sym e)

  pub too_many : 1_000_000_000 ≤ b.accepted → Fed b bytes (Err (OfBook TooMany)) b
  too_many h = let f = said ∙ over b (act b (heard m)) h in (sym (ap count f), sym (ap (after b) f))

  pub refused : (b' : Book) (f : BookFault) → b.accepted < 1_000_000_000 → Err f ≡ answer (act b (heard m)) → b' ≡ after b (act b (heard m)) →
      Fed b bytes (Err (OfBook f)) b'
  refused b' f l p q = let r = refused_as b b' f (act b (heard m)) l p q in (r.0 ∙ sym (ap count said), r.1 ∙ sym (ap (after b) said))

  pub taken : (b' : Book) → b.accepted < 1_000_000_000 → Ok tt ≡ answer (act b (heard m)) → b' ≡ after b (act b (heard m)) →
      Fed b bytes (Ok (b.accepted + 1)) (raised b b')
  taken b' l p q = let r = taken_as b b' (act b (heard m)) l p q in (r.0 ∙ sym (ap count said), r.1 ∙ sym (ap (after b) said))
