-- The laws of temporaries, as they are stated.
use Rattle.rtl_flat.specs.Flows.{body_flow}
use Rattle.rtl_flat.proofs.Paths.{decided}
use Rattle.rtl_flat.specs.Flats.{Flat, widths}
use Rattle.net_model.specs.Solution.{IsLasting}
use Rattle.demo_laws.specs.Lasting.{LastingDepends}
use Rattle.demo_laws.proofs.Live.{same_bit}

pub lasting_depends : (d : Flat) → LastingDepends d
lasting_depends d f n m body are are' lawful alike read late i k lasts =
    same_bit d f (λ j l. IsLasting d j) n m are are'.wide alike body lawful
    (λ j l h. read j l ((decided (body_flow (widths d) body) j l).outside.0 h))
    (λ j l h. late j l ((decided (body_flow (widths d) body) j l).late.0 h)) i k lasts
