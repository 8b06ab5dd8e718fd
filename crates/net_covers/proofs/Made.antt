-- What drivers give, where what they drive may be another value.
use Rattle.std.proofs.Common.{ℕ, List, [], ◌∷◌, refl}
use Rattle.std.proofs.lemmas.List.{length-replicate}
use Rattle.rtl_bits.specs.declared.Bit.{Bit}
use Rattle.rtl_bits.specs.declared.Bit.TheVariants.{Z}
use Rattle.rtl_flat.specs.Flats.{Flat, widths}
use Rattle.rtl_flat.specs.Process.{Piece}
use Rattle.event_model.specs.Writes.{Values, Write, all_written, driven, no_drive, writes, written}
use Rattle.event_covers.specs.Covers.{AllMayBe, MayBe, WritesMayBe}
use Rattle.event_covers.proofs.MayBe.{all_refl, at_may}
use Rattle.event_covers.proofs.Writes.{SignalsMayBe, writes_may, written_may}
use Rattle.net_rest.proofs.event_laws_proofs.Inside.{AreSelections}
use Rattle.net_model.specs.Numbers.{bit}

all_written_may : (v u : Values) (ws zs : List Write) → WritesMayBe ws zs → SignalsMayBe v u → SignalsMayBe (all_written v ws) (all_written u zs)
all_written_may v u [] [] is may = may
all_written_may v u [] (z ∷ zs) is may = absurd is
all_written_may v u (w ∷ ws) [] is may = absurd is
all_written_may v u (w ∷ ws) (z ∷ zs) is may =
    all_written_may (written v w) (written u z) ws zs is.1 (written_may v u w z is.0 may)

-- what a driver gives may be what it gives of a value that its own may be
pub driven_may :
    (d : Flat) (target : List Piece) → AreSelections d.signals target → (xs bs : List Bit) → AllMayBe xs bs →
    (i k : ℕ) → MayBe (bit (driven (widths d) target xs) i k) (bit (driven (widths d) target bs) i k)
driven_may d target lawful xs bs may i k =
    let ws = widths d in
    let none = no_drive ws in
    at_may (driven ws target xs i) (driven ws target bs i)
    (all_written_may none none (writes ws none target xs) (writes ws none target bs)
    (writes_may d none none (λ j. length-replicate (ws j) Z) (λ j. length-replicate (ws j) Z) target lawful (λ j l is. refl) xs bs may)
    (λ j. all_refl (none j)) i) k
