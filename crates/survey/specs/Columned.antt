-- What the columns say of the books.
use Rattle.std.specs.Prelude.{◌+◌, ◌≡◌, false}
use Rattle.basics.specs.Below.{filled_below}
use Rattle.rules.specs.declared.Size.{Size}
use Rattle.rules.specs.Sizes.{width}
use Rattle.rules.specs.Books.{Books, place_at, is_held, is_committed, live_count}
use Rattle.survey.specs.declared.columns.Columns.{Columns}

pub record Columned (z : Size) (b : Books) (c : Columns) : Type 0 where
  pub live : c.live ≡ live_count z b
  pub held : c.held ≡ filled_below (λ i. is_held (place_at b i)) false z.places (width + width)
  pub committed : c.committed ≡ filled_below (λ i. is_committed (place_at b i)) false z.places (width + width)
  pub begins : c.begins ≡ filled_below (λ i. (place_at b i).begin) 0 z.places (width + width)
  pub commits : c.commits ≡ filled_below (λ i. (place_at b i).commit) 0 z.places (width + width)
