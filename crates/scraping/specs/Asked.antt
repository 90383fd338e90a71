-- What a request asks, by its method and its path.
use Rattle.std.specs.Prelude.{◌≡◌, ◌⊎◌, ℕ, List, codes}
use Rattle.scraping.specs.declared.asked.Asked.{Asked}
use Rattle.scraping.specs.declared.asked.Asked.TheVariants.{Metrics, Stats, Page, Nothing, NotAllowed}

-- something stands at the path
abbrev pub IsThere : List ℕ → Type 0
IsThere path = (path ≡ codes "/metrics") ⊎ (path ≡ codes "/stats") ⊎ (path ≡ codes "/")

-- a request of this method and this path asks this
abbrev pub Asks : List ℕ → List ℕ → Asked → Type 0
Asks method path Metrics = (method ≡ codes "GET") × (path ≡ codes "/metrics")
Asks method path Stats = (method ≡ codes "GET") × (path ≡ codes "/stats")
Asks method path Page = (method ≡ codes "GET") × (path ≡ codes "/")
Asks method path Nothing = ¬ (IsThere path)
Asks method path NotAllowed = (¬ (method ≡ codes "GET")) × IsThere path

-- what stands at the path is this
abbrev pub StandsAt : List ℕ → Asked → Type 0
StandsAt path asked = Asks (codes "GET") path asked
