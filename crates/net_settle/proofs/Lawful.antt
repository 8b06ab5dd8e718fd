-- The processes of a design are lawful.
use Rattle.std.proofs.Common.{◌≡◌, Option, None, Some, get_or, refl, subst}
use Rattle.std.specs.List.{slice_get}
use Rattle.std.proofs.lemmas.Option.{slice_get-get_or, slice_get_within}
use Rattle.rtl_flat.specs.declared.design.Design.{Design}
use Rattle.rtl_flat.specs.Process.{Task}
use Rattle.rtl_flat.specs.WellFormed.{IsProcess}
use Rattle.event_model.specs.Queue.{doing_of}
use Rattle.rtl_flat.specs.Flats.{flat}
use Rattle.net_body.specs.event_laws.Steady.{AreLawful}

pub lawful_flat : (design : Design) → AreLawful (flat design)
lawful_flat design p does here = by (slice_get (flat design).tasks p) refl here
  where
    by : (o : Option Task) → slice_get (flat design).tasks p ≡ o → doing_of o ≡ Some does → IsProcess design.signals.items does
    by None there is = absurd (cc)
    by (Some one) there is =
        let tasks = (flat design).tasks in
        let inside = slice_get_within tasks p one there in
        let same : get_or tasks p one ≡ one = cc (slice_get-get_or tasks p one inside, there) in
        let does_is : one.does ≡ does = cc in
        subst (λ x. IsProcess design.signals.items x) does_is
        (subst (λ (t : Task). IsProcess design.signals.items t.does) same (design.is_design.each_process p one inside))
