-- Of a tame body each bit that every path writes depends on what the body reads outside alone.
use Rattle.std.proofs.Common.{◌≡◌, ◌∙◌, ◌⊎◌, ℕ, true, None, sym, ap, inl, inr}
use Rattle.std.specs.Prelude.{unwrap_or}
use Rattle.std.specs.List.{list_any}
use Rattle.std.proofs.lemmas.Bool.{or_cases}
use Rattle.rtl_flat.specs.Flows.{body_flow}
use Rattle.rtl_flat.specs.Paths.{IsSure}
use Rattle.rtl_flat.specs.Process.{Actions}
use Rattle.rtl_flat.specs.WellFormed.{IsBody}
use Rattle.event_model.specs.Bodies.{body_made}
use Rattle.rtl_flat.specs.Flats.{Flat, widths}
use Rattle.event_model.specs.Traces.{Same, makes_late, makes_now}
use Rattle.event_model.specs.Writes.{Values}
use Rattle.event_laws.specs.Laws.{AgreeOutside, after_body}
use Rattle.event_laws.proofs.Laws.{depends, made_alike, sure_made}
use Rattle.net_model.specs.Numbers.{AreNumbers, bit}
use Rattle.net_laws.specs.Laws.{last_late, last_written, late_writes}
use Rattle.net_laws.specs.Tame.{AreTame}
use Rattle.net_laws.proofs.After.{made_either}
use Rattle.net_laws.proofs.Follows.{body_path}
use Rattle.net_laws.proofs.Late.{any_late, late_known, some_last}
use Rattle.net_laws.proofs.Numbers.{body_known}

module _ (d : Flat) (n m : Values) (body : Actions) (are : AreNumbers d n) (are' : AreNumbers d m) (lawful : IsBody d.signals body) (tame : AreTame d body) (same : AgreeOutside d body n m) where
  made_same : body_made (widths d) n body ≡ body_made (widths d) m body
  made_same =
      (depends d n m body are.wide are'.wide lawful (body_path d n are body lawful tame) same).made

  last_same : (i k : ℕ) → last_late d n body i k ≡ last_late d m body i k
  last_same i k = ap (λ ms. last_written i k None (late_writes ms)) made_same

  by_now : (i k : ℕ) → Same (after_body d n body) (after_body d m body) i k → unwrap_or (last_late d n body i k) (bit (after_body d n body) i k) ≡ unwrap_or (last_late d m body i k) (bit (after_body d m body) i k)
  by_now i k now =
      ap (λ o. unwrap_or o (bit (after_body d n body) i k)) (last_same i k)
      ∙ ap (unwrap_or (last_late d m body i k)) now

  by_late : (i k : ℕ) → list_any (makes_late i k) (body_made (widths d) n body) ≡ true → unwrap_or (last_late d n body i k) (bit (after_body d n body) i k) ≡ unwrap_or (last_late d m body i k) (bit (after_body d m body) i k)
  by_late i k late =
      let ms = body_made (widths d) n body in
      let (b, last, known) = some_last i k None (late_writes ms) (late_known ms (body_known d n are body lawful tame)) (any_late i k ms ∙ late) in
      ap (λ o. unwrap_or o (bit (after_body d n body) i k)) last
      ∙ sym (ap (λ o. unwrap_or o (bit (after_body d m body) i k)) (sym (last_same i k) ∙ last))

  pub last_alike : (i k : ℕ) → Same n m i k ⊎ IsSure (body_flow (widths d) body) i k → unwrap_or (last_late d n body i k) (bit (after_body d n body) i k) ≡ unwrap_or (last_late d m body i k) (bit (after_body d m body) i k)
  last_alike i k (inl before) =
      by_now i k (made_alike d n m body i k are.wide are'.wide lawful made_same (inl before))
  last_alike i k (inr sure) =
      let ms = body_made (widths d) n body in
      let makes = sure_made d n body i k are.wide lawful (body_path d n are body lawful tame) sure in
      elim (or_cases (list_any (makes_now i k) ms) (list_any (makes_late i k) ms) (sym (made_either i k ms) ∙ makes)) [
        | inl now ↦ by_now i k (made_alike d n m body i k are.wide are'.wide lawful made_same (inr now))
        | inr late ↦ by_late i k late
      ]
