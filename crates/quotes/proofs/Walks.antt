-- The walk over the open orders: the quote so far, joined with that of the orders that are left, is the whole.
use Rattle.std.proofs.Common.{◌≡◌, ℕ, List, [], ◌∷◌, sym, ap, ◌∙◌, subst}
use Rattle.store.specs.Held.{Rising}
use Rattle.book.specs.declared.value.Order.{Order}
use Rattle.book.specs.declared.value.Quote.{Quote}
use Rattle.quotes.specs.Levels.{levels, with_order}
use Rattle.quotes.specs.Rule.{LevelsRule}
use Rattle.quotes.proofs.Joins.{both, with_more, with_none}
use Rattle.quotes.proofs.Rules.{levels_rule}

module _ (l : ℕ) (q whole : Quote) (left : List (ℕ × Order)) (so_far : both q (levels left l) ≡ whole) where
  pub so_far_next : (q' : Quote) (p : ℕ × Order) (rest : List (ℕ × Order)) → left ≡ p ∷ rest → q' ≡ with_order q l p.1 → both q' (levels rest l) ≡ whole
  so_far_next q' p rest e is =
      ap (λ (r : Quote). both r (levels rest l)) is
      ∙ with_more q l p rest
      ∙ ap (λ (os : List (ℕ × Order)). both q (levels os l)) (sym e) ∙ so_far

  pub at_end : left ≡ [] → q ≡ whole
  at_end e = sym (with_none q l) ∙ ap (λ (os : List (ℕ × Order)). both q (levels os l)) (sym e) ∙ so_far

pub rule_of : (l : ℕ) (q : Quote) (os : List (ℕ × Order)) → Rising os → q ≡ levels os l → LevelsRule os l q
rule_of l q os up e = let P : Quote → Type 0 = LevelsRule os l in subst P (sym e) (levels_rule os l up)
