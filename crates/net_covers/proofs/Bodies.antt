-- The run of a body that reads a marked signal, beside one from numbers that it tells.
use Rattle.std.proofs.Common.{◌≡◌, ◌∙◌, ℕ, true, List, sym, ap, subst, inr}
use Rattle.rtl_bits.specs.Bit.{is_unknown}
use Rattle.rtl_flat.specs.Flows.{body_flow}
use Rattle.rtl_flat.specs.Paths.{BitSet, IsPath, MayWrite, ReadsOutside, reads_outside}
use Rattle.rtl_flat.specs.Process.{Actions}
use Rattle.rtl_flat.specs.WellFormed.{IsBody}
use Rattle.rtl_flat.proofs.Paths.{decided}
use Rattle.event_model.specs.Bodies.{Made, body_made}
use Rattle.rtl_flat.specs.Flats.{Flat, widths}
use Rattle.event_model.specs.Traces.{FollowsPath}
use Rattle.event_model.specs.Writes.{Values}
use Rattle.event_covers.specs.Covers.{AgreeOnChoices, KeepsChoices, MadeMayBe, MayBe, RunMayBe, StoresMayBe}
use Rattle.event_covers.proofs.Laws.{bodies_may}
use Rattle.net_rest.specs.event_laws.Laws.{MakesNow, RunAlike, after_body}
use Rattle.net_rest.specs.event_laws.Steady.{HaveWidths}
use Rattle.net_rest.proofs.event_laws_proofs.Laws.{depends, made_alike, may_now}
use Rattle.net_rest.proofs.event_runs_proofs.May.{now_may}
use Rattle.net_model.specs.Numbers.{bit}
use Rattle.net_covers.specs.Marks.{IsMarked, Tells}
use Rattle.event_covers.proofs.Writes.{same_now}
use Rattle.net_covers.proofs.Mixture.{mixed, mixed_in, mixed_may, mixed_same, mixed_wide}

module _ (d : Flat) (Doubt : ℕ → Type 0) (body : Actions) (lawful : IsBody d.signals body) (marked : IsMarked d Doubt body) (writes : (i k : ℕ) → MayWrite (body_flow (widths d) body) i k → Doubt i) (n v : Values) (numbers : HaveWidths d n) (wide : HaveWidths d v) (finds : (j l : ℕ) → ReadsOutside (body_flow (widths d) body) j l → Tells Doubt v n j l) (path : FollowsPath (widths d) n body) where
  abbrev set : BitSet
  set = reads_outside (body_flow (widths d) body)

  found : (j l : ℕ) → set j l ≡ true → Tells Doubt v n j l
  found j l is = finds j l ((decided (body_flow (widths d) body) j l).outside.0 is)

  abbrev m : Values
  m = mixed d set v n

  wide_mixed : HaveWidths d m
  wide_mixed = mixed_wide d set v n

  -- what the values are where the body reads them outside may be the numbers
  may : StoresMayBe m n
  may = mixed_may d set v n wide numbers (λ j l is. (found j l is).may)

  agree : AgreeOnChoices d body m n
  agree j l choice = mixed_same d set v n wide numbers j l (λ is. (found j l is).same (marked.decides j l choice))

  keeps : KeepsChoices d body m
  keeps j l choice now =
      marked.decides j l choice (writes j l (now_may (body_flow (widths d) body) j l (may_now d m body j l lawful now)))

  run : RunMayBe d body m n
  run = bodies_may d m n body wide_mixed numbers may lawful marked.plain agree keeps

  path_mixed : FollowsPath (widths d) m body
  path_mixed = subst (IsPath (body_flow (widths d) body)) (sym run.steps) path

  alike : RunAlike d body m v
  alike =
      depends d m v body wide_mixed wide lawful path_mixed
      (λ j l outside. mixed_in d set v n wide numbers j l ((decided (body_flow (widths d) body) j l).outside.1 outside))

  -- it takes a path
  pub marked_path : FollowsPath (widths d) v body
  marked_path = subst (IsPath (body_flow (widths d) body)) alike.steps path_mixed

  -- and makes what may be what the other makes
  pub marked_made : MadeMayBe (body_made (widths d) v body) (body_made (widths d) n body)
  marked_made =
      subst (λ (ms : List Made). MadeMayBe ms (body_made (widths d) n body)) alike.made run.made

  -- so are the bits that are made at once
  pub marked_after : (i k : ℕ) → MakesNow d n body i k → MayBe (bit (after_body d v body) i k) (bit (after_body d n body) i k)
  marked_after i k now known =
      let both = same_now i k (body_made (widths d) m body) (body_made (widths d) n body) run.made in
      let same = made_alike d m v body i k wide_mixed wide lawful alike.made (inr (both ∙ now)) in
      sym same ∙ run.after i k (ap is_unknown same ∙ known)
