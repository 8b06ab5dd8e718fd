-- It serves inner contracts and proofs; no answer of the program is stated by it.
-- The end of a body, signal by signal, and digits that are put aside there.
use Rattle.std.specs.Prelude.{ℕ, Bool, false, cond, List, [], ◌∷◌, length, None}
use Rattle.rtl_bits.specs.declared.Bit.{Bit}
use Rattle.rtl_bits.specs.Bit.{xor_bit}
use Rattle.rtl_bits.specs.Bits.{tabulate, zip_with}
use Rattle.rtl_flat.specs.declared.signal.Signal.{Signal}
use Rattle.rtl_flat.specs.Value.{store}
use Rattle.event_model.specs.Writes.{Values, put}
use Rattle.net_model.specs.Block.{Maps, bit_after}
use Rattle.net_body.specs.declared.mark.Mark.{Mark}
use Rattle.net_body.specs.Marks.{AreStored, maps}

-- digits where those that a run changed are as it made them
abbrev pub changed_digits : List Bit → List Bit → List Bit → List Bit
changed_digits old ran after = zip_with xor_bit after (zip_with xor_bit old ran)

-- the digits of a signal at the end
abbrev pub bits_after : Maps → ℕ → List Bit
bits_after m i = tabulate (length (m.now i)) (bit_after m i)

-- the maps, and the digits that are put aside
pub record Ending : Type 0 where
  pub maps : Maps
  pub after : Values

abbrev pub ending : List (List Bit) → List Mark → List (List Bit) → Ending
ending numbers marks after = record { maps = maps numbers marks; after = store after }

-- one signal at its end, with its digits put aside or not
abbrev pub ending_after_one : Bool → Values → Ending → ℕ → Ending
ending_after_one aside before e i =
    record {
      maps = record {
        now = put e.maps.now i (cond aside (before i) (bits_after e.maps i));
        next = put e.maps.next i (λ k. None);
        wrote = put e.maps.wrote i (λ k. false);
        late = put e.maps.late i (λ k. false);
      };
      after = cond aside (put e.after i (changed_digits (before i) (bits_after e.maps i) (e.after i))) e.after;
    }

-- one signal after another
abbrev pub ending_after : Bool → Values → Ending → List ℕ → Ending
ending_after aside before e [] = e
ending_after aside before e (i ∷ others) = ending_after aside before (ending_after_one aside before e i) others

-- digits of its width for each signal, from before a run and put aside
pub record AreBeside (signals : List Signal) (before after : List (List Bit)) : Type 0 where
  pub old : AreStored signals before
  pub beside : AreStored signals after
