-- A signal at a place, as contracts see it.
use Rattle.std.specs.Prelude.{ℕ, List, map}
use Rattle.std.specs.List.{slice_get}
use Rattle.std.specs.Option.{option_map}
use Rattle.std.proofs.Common.{◌≡◌}
use Rattle.std.proofs.lemmas.Option.{slice_get-map}
use Rattle.elab_items.specs.declared.roster.Listing.{Listing}
use Rattle.elab_items.specs.Rosters.{listing}

pub listed_at : (signals : List Listing) (place : ℕ) → slice_get (map listing signals) place ≡ option_map listing (slice_get signals place)
listed_at signals place = slice_get-map listing signals place
