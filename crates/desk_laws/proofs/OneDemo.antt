-- What findings show, and what a demonstration shows that is run again, is settled by a design that elaboration makes.
use Rattle.std.proofs.Common.{◌≡◌, ◌∙◌, ℕ, suc, List, [], ◌∷◌, length, map, Option, Some, None, Result, Ok, Err, refl, sym, ap, subst, inl, inr, arith}
use Rattle.std.specs.Prelude.{◌⊎◌}
use Rattle.std.specs.List.{slice_get}
use Rattle.desk_refusals.specs.elab_scope.Faults.{Answer}
use Rattle.rtl_tree.specs.TreeModule.{Circuit}
use Rattle.rtl_flat.specs.Flats.{DesignParts, Flat}
use Rattle.desk_top.specs.rtl_elab.Designs.{library_of}
use Rattle.desk_top.specs.rtl_elab.Elaborated.{elaborated}
use Rattle.desk_top.proofs.rtl_elab_proofs.Deciding.{elaborated_lawful}
use Rattle.rtl_rule.specs.declared.finding.Finding.{Finding}
use Rattle.demo_told.specs.declared.demo.Demo.{Demo}
use Rattle.demo_told.specs.declared.demo.Shown.{Shown}
use Rattle.demo_laws.specs.demo_replay.declared.fault.ReplayFault.{ReplayFault}
use Rattle.demo_laws.specs.demo_replay.declared.fault.ReplayFault.TheVariants.{Memory}
use Rattle.demo_laws.specs.demo_replay.Replays.{IsIllegal}
use Rattle.demo_laws.specs.demo_replay.Firsts.{AreFirsts, Told, told}
use Rattle.demo_laws.specs.Laws.{AreProcesses}
use Rattle.demo_laws.proofs.Firsts.{one_first}
use Rattle.demo_laws.proofs.Replays.{no_fault, not_legal, one_fault, one_replay}
use Rattle.source_file.specs.declared.SourceFile.{SourceFile}
use Rattle.desk_demo.proofs.One.{leads_or_unread, one_lead, one_told, told_or_leads, told_or_unread}
use Rattle.rtl_front.specs.rtl_prep.Conditions.{FileConditions}
use Rattle.desk_top.specs.desk_build.check_conditions.ToolNotes.{tool_noted, with_tools}
use Rattle.desk_top.specs.desk_build.Building.{Built, Designed, Front, IsBuilt, Faulty, Modules, all_foreign, built_of, elaborated_or_not}
use Rattle.desk_top.specs.Delivery.{Outcome}
use Rattle.desk_top.specs.Outcome.{Differs, Fails, IsDemoRun, IsRerun, Read, Unread, fault_outcome, replay_outcome, Misnamed, More}

-- ---- designs that texts make

flat_once : (one other : DesignParts) → Designed one ≡ Designed other → one ≡ other
flat_once one other e = cc

pub processes_of : (top : List ℕ) (sources : List SourceFile) (texts : List (List ℕ)) (flat : DesignParts) → IsBuilt top sources texts (Designed flat) → AreProcesses flat.parts.flat
processes_of top sources texts flat is = by_front is.front is.is
  where
    -- notes have no part in processes
    by_made : (circuits : List (List Circuit)) (conditions : List FileConditions) (made : Result DesignParts Answer) → elaborated (library_of circuits) top ≡ made → Designed flat ≡ elaborated_or_not sources (tool_noted (all_foreign conditions) made) → AreProcesses flat.parts.flat
    by_made circuits conditions (Ok f) made same =
        subst (λ (parts : DesignParts). AreProcesses parts.parts.flat) (flat_once (with_tools (all_foreign conditions) f) flat (sym same)) (elaborated_lawful (library_of circuits) top f made).each_process
    by_made circuits conditions (Err answer) made same = absurd (cc)

    by_front : (front : Front) → Designed flat ≡ built_of top sources front → AreProcesses flat.parts.flat
    by_front (Modules circuits conditions) same = by_made circuits conditions (elaborated (library_of circuits) top) refl same
    by_front (Faulty file fault) same = absurd (cc)

-- ---- what findings show

abbrev back : Option Told → Option (Demo × Shown)
back None = None
back (Some one) =
    Some (record { trial = one.trial; step = one.place.step; signal = record { 0 = one.place.signal } }, record { simulated = one.place.simulated; synthesised = one.place.synthesised })

back_told : (shown : Option (Demo × Shown)) → back (told shown) ≡ shown
back_told None = refl
back_told (Some (demo, shown)) = refl

told_once : (one other : Option (Demo × Shown)) → told one ≡ told other → one ≡ other
told_once one other e = sym (back_told one) ∙ ap back e ∙ back_told other

pub firsts_once : (d : Flat) → AreProcesses d → (findings : List Finding) (one other : List (Option (Demo × Shown))) → AreFirsts d findings (map told one) → AreFirsts d findings (map told other) → one ≡ other
firsts_once d lawful [] [] [] first second = refl
firsts_once d lawful [] (x ∷ one) other first second = absurd (omega (arith, first.count))
firsts_once d lawful [] [] (y ∷ other) first second = absurd (omega (arith, second.count))
firsts_once d lawful (finding ∷ findings) [] other first second = absurd (omega (arith, first.count))
firsts_once d lawful (finding ∷ findings) (x ∷ one) [] first second = absurd (omega (arith, second.count))
firsts_once d lawful (finding ∷ findings) (x ∷ one) (y ∷ other) first second =
    let here : x ≡ y = told_once x y (one_first d lawful finding (told x) (told y) (first.each 0 finding (told x) refl refl) (second.each 0 finding (told y) refl refl)) in
    let later : one ≡ other = firsts_once d lawful findings one other (behind x one first) (behind y other second) in
    ap (λ s. s ∷ one) here ∙ ap (λ ss. y ∷ ss) later
  where
    behind : (z : Option (Demo × Shown)) (some : List (Option (Demo × Shown))) → AreFirsts d (finding ∷ findings) (map told (z ∷ some)) → AreFirsts d findings (map told some)
    behind z some are =
        record {
          count = omega (arith, are.count);
          each = λ k f o there shown. are.each (suc k) f o there shown;
        }

-- ---- what a demonstration shows

none_some : {P : Type 0} (outcome : Outcome) → None ≡ Some outcome → P
none_some outcome e = absurd (cc)

some_once : (one other : Outcome) → Some one ≡ Some other → one ≡ other
some_once one other e = cc

no_outcome : {P : Type 0} (fault : ReplayFault) (outcome : Outcome) → fault ≡ Memory → fault_outcome fault ≡ Some outcome → P
no_outcome fault outcome memory is = none_some outcome (sym (ap fault_outcome memory) ∙ is)

rerun_once : (flat : DesignParts) → AreProcesses flat.parts.flat → (demo : Demo) (one other : Outcome) → IsRerun flat demo one → IsRerun flat demo other → one ≡ other
rerun_once flat lawful demo one other (Differs values is) (Differs others are) =
    ap (replay_outcome flat demo) (one_replay flat.parts.flat lawful demo values others is are)
rerun_once flat lawful demo one other (Differs values is) (Fails fault outcome why same) =
    no_outcome fault outcome (no_fault flat.parts.flat lawful demo values fault is why) same
rerun_once flat lawful demo one other (Fails fault outcome why same) (Differs values is) =
    no_outcome fault outcome (no_fault flat.parts.flat lawful demo values fault is why) same
rerun_once flat lawful demo one other (Fails fault outcome why same) (Fails fault' outcome' why' same') =
    by (one_fault flat.parts.flat lawful demo fault fault' why why')
  where
    by : (fault ≡ fault') ⊎ ((fault ≡ Memory) ⊎ (fault' ≡ Memory)) → outcome ≡ outcome'
    by (inl alike) = some_once outcome outcome' (sym same ∙ ap fault_outcome alike ∙ same')
    by (inr (inl memory)) = no_outcome fault outcome memory same
    by (inr (inr memory)) = no_outcome fault' outcome' memory same'

pub demo_once : (design : DesignParts) → AreProcesses design.parts.flat → (text : List ℕ) (one other : Outcome) → IsDemoRun design text one → IsDemoRun design text other → one ≡ other
demo_once design lawful text one other (Read demo outcome is shows) (Read demo' outcome' is' shows') =
    rerun_once design lawful demo' outcome outcome' (subst (λ (d : Demo). IsRerun design d outcome) (one_told design.parts.flat.signals text demo demo' is is') shows) shows'
demo_once design lawful text one other (Read demo outcome is shows) (Unread wrong) = absurd (told_or_unread design.parts.flat.signals text demo is wrong)
demo_once design lawful text one other (Read demo outcome is shows) (Misnamed demo' part leads isnt) = absurd (told_or_leads design.parts.flat.signals text demo demo' is leads)
demo_once design lawful text one other (Read demo outcome is shows) (More demo' leads legal) = absurd (told_or_leads design.parts.flat.signals text demo demo' is leads)
demo_once design lawful text one other (Unread wrong) (Read demo outcome is shows) = absurd (told_or_unread design.parts.flat.signals text demo is wrong)
demo_once design lawful text one other (Unread wrong) (Unread wrong') = refl
demo_once design lawful text one other (Unread wrong) (Misnamed demo part leads isnt) = refl
demo_once design lawful text one other (Unread wrong) (More demo leads legal) = absurd (leads_or_unread design.parts.flat.signals text demo leads wrong)
demo_once design lawful text one other (Misnamed demo part leads isnt) (Read demo' outcome is shows) = absurd (told_or_leads design.parts.flat.signals text demo' demo is leads)
demo_once design lawful text one other (Misnamed demo part leads isnt) (Unread wrong) = refl
demo_once design lawful text one other (Misnamed demo part leads isnt) (Misnamed demo' part' leads' isnt') = refl
demo_once design lawful text one other (Misnamed demo part leads isnt) (More demo' leads' legal) =
    absurd (not_legal design.parts.flat demo' part (subst (λ (d : Demo). IsIllegal design.parts.flat d part) (one_lead design.parts.flat.signals text demo demo' leads leads') isnt) legal)
demo_once design lawful text one other (More demo leads legal) (Read demo' outcome is shows) = absurd (told_or_leads design.parts.flat.signals text demo' demo is leads)
demo_once design lawful text one other (More demo leads legal) (Unread wrong) = absurd (leads_or_unread design.parts.flat.signals text demo leads wrong)
demo_once design lawful text one other (More demo leads legal) (Misnamed demo' part leads' isnt) =
    absurd (not_legal design.parts.flat demo part (subst (λ (d : Demo). IsIllegal design.parts.flat d part) (one_lead design.parts.flat.signals text demo' demo leads' leads) isnt) legal)
demo_once design lawful text one other (More demo leads legal) (More demo' leads' legal') = refl
