-- Values after several writes.
use Rattle.std.proofs.Common.{◌≡◌, ◌∙◌, ℕ, true, false, ◌||◌, List, [], ◌∷◌, Option, Some, refl, ap}
use Rattle.std.specs.List.{All, list_any}
use Rattle.std.proofs.lemmas.Bool.{or_parts}
use Rattle.std.proofs.lemmas.List.Elements.{All-cons, All-head, All-nil, All-tail}
use Rattle.rtl_flat.specs.PathSets.{listed}
use Rattle.rtl_flat.specs.Process.{Actions, Watched, Comb}
use Rattle.rtl_flat.specs.WellFormed.{IsList}
use Rattle.event_model.specs.Bodies.{Made, Now, Later, after_made}
use Rattle.event_model.specs.Queue.{hears}
use Rattle.rtl_flat.specs.Flats.{Flat, widths}
use Rattle.event_model.specs.Traces.{Same, covers, makes_late, makes_now}
use Rattle.event_model.specs.Writes.{Values, Write, all_written, written}
use Rattle.event_laws.specs.Steady.{HaveWidths, IsWithin}
use Rattle.event_laws.proofs.Lengths.{have_written}
use Rattle.event_laws.proofs.Made.{IsMadeWithin}
use Rattle.event_laws.proofs.Unheard.{unheard_list}
use Rattle.event_laws.proofs.Written.{written_out}
use Rattle.event_runs.specs.Effects.{is_heard, laters, nows}
use Rattle.event_runs.specs.Writers.{are_over}

module _ (d : Flat) where
  first_within : (w : Write) (us : List Write) → All (IsWithin (widths d)) (w ∷ us) → IsWithin (widths d) w
  first_within w us inside = All-head (IsWithin (widths d)) w us inside

  others_within : (w : Write) (us : List Write) → All (IsWithin (widths d)) (w ∷ us) → All (IsWithin (widths d)) us
  others_within w us inside = All-tail (IsWithin (widths d)) w us inside

  -- widths stay
  pub have_all : (v : Values) (us : List Write) → HaveWidths d v → All (IsWithin (widths d)) us → HaveWidths d (all_written v us)
  have_all v [] have inside = have
  have_all v (w ∷ us) have inside =
      have_all (written v w) us (have_written d v w have (first_within w us inside)) (others_within w us inside)

  -- a bit that no write is over stays
  pub kept :
      (v : Values) (us : List Write) → HaveWidths d v → All (IsWithin (widths d)) us → (i k : ℕ) → list_any (covers i k) us ≡ false →
      Same (all_written v us) v i k
  kept v [] have inside i k none = refl
  kept v (w ∷ us) have inside i k none =
      let here = first_within w us inside in
      let parts = or_parts (covers i k w) (list_any (covers i k) us) none in
      kept (written v w) us (have_written d v w have here) (others_within w us inside) i k parts.1
      ∙ written_out d v w have here i k parts.0

  -- writes that a block without edges doesn't hear leave what it lists
  pub unheard_all :
      (list : Option (List Watched)) (body : Actions) → IsList d.signals list → (v : Values) (us : List Write) → HaveWidths d v →
      All (IsWithin (widths d)) us → is_heard d v us (Some (Comb list body)) ≡ false →
      (i k : ℕ) → listed (widths d) (Comb list body) i k ≡ true → Same (all_written v us) v i k
  unheard_all list body lawful v [] have inside deaf i k is = refl
  unheard_all list body lawful v (w ∷ us) have inside deaf i k is =
      let here = first_within w us inside in
      let parts = or_parts (hears (widths d) w.signal (v w.signal) (written v w w.signal) (Some (Comb list body))) (is_heard d (written v w) us (Some (Comb list body))) deaf in
      unheard_all list body lawful (written v w) us (have_written d v w have here) (others_within w us inside) parts.1 i k is
      ∙ unheard_list d v w list body have here lawful parts.0 i k is

-- ---- the writes among what a body makes

pub after_nows : (v : Values) (ms : List Made) → after_made v ms ≡ all_written v (nows ms)
after_nows v [] = refl
after_nows v (Now w ∷ ms) = after_nows (written v w) ms
after_nows v (Later us ∷ ms) = after_nows v ms

pub nows_within : (ws : ℕ → ℕ) (ms : List Made) → All (IsMadeWithin ws) ms → All (IsWithin ws) (nows ms)
nows_within ws [] inside = All-nil (IsWithin ws)
nows_within ws (Now w ∷ ms) inside =
    All-cons (IsWithin ws) w (nows ms) (All-head (IsMadeWithin ws) (Now w) ms inside)
    (nows_within ws ms (All-tail (IsMadeWithin ws) (Now w) ms inside))
nows_within ws (Later us ∷ ms) inside =
    nows_within ws ms (All-tail (IsMadeWithin ws) (Later us) ms inside)

pub nows_cover : (i k : ℕ) (ms : List Made) → list_any (makes_now i k) ms ≡ list_any (covers i k) (nows ms)
nows_cover i k [] = refl
nows_cover i k (Now w ∷ ms) = ap (λ b. covers i k w || b) (nows_cover i k ms)
nows_cover i k (Later us ∷ ms) = nows_cover i k ms

pub laters_cover : (i k : ℕ) (ms : List Made) → list_any (makes_late i k) ms ≡ are_over i k (laters ms)
laters_cover i k [] = refl
laters_cover i k (Now w ∷ ms) = laters_cover i k ms
laters_cover i k (Later us ∷ ms) = ap (λ b. list_any (covers i k) us || b) (laters_cover i k ms)
