-- The names of the feeds.
use Rattle.std.specs.Prelude.{◌≡◌, ℕ, List, Some, None, codes, Option, ◌≢◌}
use Rattle.wire.specs.declared.message.Feed.{Feed}
use Rattle.wire.specs.declared.message.Feed.TheVariants.{Depth, Bbbo, LastSale}

-- The feed that a word names; any other word names none.
abbrev pub NamesFeed : List ℕ → Option Feed → Type 0
NamesFeed word (Some Depth) = word ≡ codes "depth"
NamesFeed word (Some Bbbo) = word ≡ codes "bbbo"
NamesFeed word (Some LastSale) = word ≡ codes "sale"
NamesFeed word None = (word ≢ codes "depth") × (word ≢ codes "bbbo") × (word ≢ codes "sale")
