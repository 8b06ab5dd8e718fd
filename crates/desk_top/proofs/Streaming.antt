-- The lines of a simulation that reach a sink one after the other.
use Rattle.std.proofs.Common.{◌≡◌, ◌≢◌, ◌<◌, ℕ, List, [], ◌∷◌, ◌++◌, length, Option, Ok, true, false, refl, sym, ◌∙◌, ap, subst, append_assoc, length-append, arith}
use Rattle.std.specs.Io.KnownBytes.{Appends}
use Rattle.std.proofs.KnownBytes.{Appends-nil, Appends-trans}
use Rattle.rtl_flat.specs.declared.design.Design.{Design}
use Rattle.rtl_flat.specs.Flats.{flat_in}
use Rattle.desk_steps.specs.declared.file.Steps.{Steps as Read}
use Rattle.desk_steps.specs.Steps.{steps as plain}
use Rattle.desk_runs.specs.declared.run.Run.{Run as Running}
use Rattle.desk_runs.specs.declared.run.Progress.{Progress}
use Rattle.desk_runs.specs.declared.run.Progress.TheVariants.{Rested, Unsettled, Ended}
use Rattle.desk_runs.specs.Progress.{Goes, IsAt, IsShown, design_of, steps_of}
use Rattle.desk_runs.specs.Runs.{Shown}
use Rattle.desk_runs.proofs.Begun.{begun_of}
use Rattle.desk_top.specs.Delivery.{Delivers, Front, FrontAppended, Nothing, gave_up}
use Rattle.desk_top.specs.Outcome.{IsShowing, run as outcome_of}
use Rattle.desk_top.specs.Plans.{IsStreamed}

-- the lines of a run so far were written
pub record IsGoing (design : Design) (read : Read) (run : Running) (before now : Option (List ℕ)) : Type 0 where
  pub bytes : List ℕ
  pub at : IsAt run bytes
  pub written : Appends before now bytes
  pub of_design : design_of run ≡ design
  pub of_steps : steps_of run ≡ read

pub starts : (design : Design) (read : Read) (run : Running) (taken : Option (List ℕ)) → IsAt run [] → design_of run ≡ design → steps_of run ≡ read → IsGoing design read run taken taken
starts design read run taken at of_design of_steps =
    record { bytes = []; at = at; written = Appends-nil taken; of_design = of_design; of_steps = of_steps }

shown_of : (design : Design) (read : Read) (run : Running) (shown : Shown) → design_of run ≡ design → steps_of run ≡ read → IsShown (design_of run) (steps_of run) shown → IsShowing (flat_in design) (plain read) (outcome_of shown)
shown_of design read run shown of_design of_steps is =
    (shown, subst (λ (r : Read). IsShown design r shown) of_steps (subst (λ (d : Design). IsShown d (steps_of run) shown) of_design is), refl)

append_none : (bytes : List ℕ) → bytes ++ [] ≡ bytes
append_none [] = refl
append_none (byte ∷ bytes) = ap (λ all. byte ∷ all) (append_none bytes)

three : (a b c e : List ℕ) → (a ++ (b ++ c)) ++ e ≡ (a ++ b) ++ (c ++ e)
three a b c e = ap (λ all. all ++ e) (sym (append_assoc a b c)) ∙ append_assoc (a ++ b) c e

not_empty : (bytes line : List ℕ) → line ≢ [] → bytes ++ line ≢ []
not_empty [] line some = some
not_empty (byte ∷ bytes) line some = λ none. absurd (cc)

-- how a run went on, by what it answered
module _ (s t : Running) (line : List ℕ) (progress : Progress) (goes : (bytes : List ℕ) → IsAt s bytes → Goes s t (Ok progress) bytes line) where
  pub on_rested : progress ≡ Rested → (bytes : List ℕ) → IsAt s bytes → IsAt t (bytes ++ line)
  on_rested is = λ bytes at. subst (λ (p : Progress). Goes s t (Ok p) bytes line) is (goes bytes at)

  pub on_unsettled : progress ≡ Unsettled → (bytes : List ℕ) → IsAt s bytes → IsShown (design_of s) (steps_of s) (record { settled = false; bytes = bytes ++ line })
  on_unsettled is = λ bytes at. subst (λ (p : Progress). Goes s t (Ok p) bytes line) is (goes bytes at)

  pub on_ended : progress ≡ Ended → (bytes : List ℕ) → IsAt s bytes → IsShown (design_of s) (steps_of s) (record { settled = true; bytes = bytes })
  on_ended is = λ bytes at. subst (λ (p : Progress). Goes s t (Ok p) bytes line) is (goes bytes at)

-- no run began
pub none : (design : Design) (read : Read) (taken : Option (List ℕ)) → IsStreamed (flat_in design) (plain read) 20 taken taken
none design read taken =
    record {
      read = λ same. absurd (omega (arith, same));
      delivered = λ goes_on. absurd (let same : true ≡ false = goes_on in cc);
      cut = λ _. Nothing (Appends-nil taken);
    }

module _ (design : Design) (read : Read) (run : Running) (before now : Option (List ℕ)) (going : IsGoing design read run before now) where
  -- memory ran out
  pub cut : IsStreamed (flat_in design) (plain read) 20 before now
  cut =
      let begun = begun_of run going.bytes going.at in
      record {
        read = λ same. absurd (omega (arith, same));
        delivered = λ goes_on. absurd (let same : true ≡ false = goes_on in cc);
        cut = λ _. Front (outcome_of begun.shown) (shown_of design read run begun.shown going.of_design going.of_steps begun.is_shown) (record { front = going.bytes; rest = begun.rest; parts = begun.parts; appended = going.written });
      }

  -- no step is left
  pub ended : ((bytes : List ℕ) → IsAt run bytes → IsShown (design_of run) (steps_of run) (record { settled = true; bytes = bytes })) → IsStreamed (flat_in design) (plain read) 0 before now
  ended goes =
      let shown : Shown = record { settled = true; bytes = going.bytes } in
      record {
        read = λ same. absurd (omega (arith, same));
        delivered = λ goes_on. (
          outcome_of shown,
          shown_of design read run shown going.of_design going.of_steps (goes going.bytes going.at),
          record {
            exact = λ written. refl;
            whole = λ written. going.written;
            front = record { front = going.bytes; rest = []; parts = sym (append_none going.bytes); appended = going.written };
            some_bytes = λ same. absurd (omega (arith, same));
          },
        );
        cut = λ same. absurd (omega (arith, same));
      }

  -- a step didn't come to rest, and its line is written, or a front of it is
  pub unsettled : (line : List ℕ) (status : ℕ) (next : Option (List ℕ)) → ((bytes : List ℕ) → IsAt run bytes → IsShown (design_of run) (steps_of run) (record { settled = false; bytes = bytes ++ line }))
      → gave_up status ≡ false → Delivers (record { status = 11; bytes = line }) status now next → IsStreamed (flat_in design) (plain read) status before next
  unsettled line status next goes done delivers =
      let shown : Shown = record { settled = false; bytes = going.bytes ++ line } in
      let last = delivers.front in
      record {
        read = λ same. absurd (let clash : true ≡ false = ap gave_up (sym same) ∙ done in cc);
        delivered = λ goes_on. (
          outcome_of shown,
          shown_of design read run shown going.of_design going.of_steps (goes going.bytes going.at),
          record {
            exact = delivers.exact;
            whole = λ written. Appends-trans before now next going.bytes line going.written (delivers.whole written);
            front = record {
              front = going.bytes ++ last.front;
              rest = last.rest;
              parts = ap (λ all. going.bytes ++ all) last.parts ∙ sym (append_assoc going.bytes last.front last.rest);
              appended = Appends-trans before now next going.bytes last.front going.written last.appended;
            };
            some_bytes = λ unwritten. not_empty going.bytes line (delivers.some_bytes unwritten);
          },
        );
        cut = λ same. absurd (let clash : true ≡ false = ap gave_up (sym same) ∙ done in cc);
      }

module _ (design : Design) (read : Read) (s t : Running) (before now next : Option (List ℕ)) (line : List ℕ) (going : IsGoing design read s before now) (goes : (bytes : List ℕ) → IsAt s bytes → IsAt t (bytes ++ line)) (of_design : design_of t ≡ design_of s) (of_steps : steps_of t ≡ steps_of s) where
  -- a step came to rest, and its line was written
  pub goes_on : Appends now next line → IsGoing design read t before next
  goes_on more =
      record {
        bytes = going.bytes ++ line;
        at = goes going.bytes going.at;
        written = Appends-trans before now next going.bytes line going.written more;
        of_design = of_design ∙ going.of_design;
        of_steps = of_steps ∙ going.of_steps;
      }

  -- its line wasn't written whole
  pub unwritten : FrontAppended now next line → 0 < length line → IsStreamed (flat_in design) (plain read) 5 before next
  unwritten last some =
      let begun = begun_of t (going.bytes ++ line) (goes going.bytes going.at) in
      let parts : begun.shown.bytes ≡ (going.bytes ++ last.front) ++ (last.rest ++ begun.rest) =
      begun.parts ∙ ap (λ all. (going.bytes ++ all) ++ begun.rest) last.parts ∙ three going.bytes last.front last.rest begun.rest
      in
      record {
        read = λ same. absurd (omega (arith, same));
        delivered = λ done. (
          outcome_of begun.shown,
          shown_of design read t begun.shown (of_design ∙ going.of_design) (of_steps ∙ going.of_steps) begun.is_shown,
          record {
            exact = λ written. absurd (written refl);
            whole = λ written. absurd (written refl);
            front = record {
              front = going.bytes ++ last.front;
              rest = last.rest ++ begun.rest;
              parts = parts;
              appended = Appends-trans before now next going.bytes last.front going.written last.appended;
            };
            some_bytes = λ same none. absurd (omega (arith, some, ap length begun.parts, ap length none, length-append (going.bytes ++ line) begun.rest, length-append going.bytes line));
          },
        );
        cut = λ same. absurd (omega (arith, same));
      }
