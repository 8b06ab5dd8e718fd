-- No trial shows a difference where no finding is of a rule that agreement stands on.
use Rattle.std.specs.Prelude.{nat_lt}
use Rattle.std.proofs.Common.{◌≡◌, ◌∙◌, ◌==◌, ◌<◌, ℕ, Bool, true, false, cond, refl, sym, ap, inl, inr, arith}
use Rattle.std.proofs.lemmas.Bool.{cases_Bool, eqb-true}
use Rattle.rtl_flat.specs.declared.design.Design.{Design}
use Rattle.rtl_rule.specs.declared.rule.Rule.{Rule}
use Rattle.rtl_rule.specs.declared.rule.Rule.TheVariants.{NeverWakes}
use Rattle.rtl_flat.specs.Flats.{flat, parts}
use Rattle.check_clean.specs.event_laws.Steady.{AreLawful}
use Rattle.check_clean.proofs.event_laws_proofs.Steady.{lawful_processes}
use Rattle.demo_replay.specs.net_list.Chosen.{chains_of}
use Rattle.check_clean.proofs.check_laws_proofs.Stored.{stored}
use Rattle.check_clean.proofs.check_laws_proofs.Temporaries.{temporaries_decided}
use Rattle.check_clean.specs.Clean.{IsCleanDesign}
use Rattle.rtl_rule.specs.Rows.{is_needed}
use Rattle.check_clean.proofs.Clean.{clean_design}
use Rattle.check_clean.proofs.check_all_proofs.Without.{none_needed}
use Rattle.demo_replay.specs.Compared.{is_trial_of, is_unwoken}
use Rattle.demo_replay.specs.Firsts.{Never}
use Rattle.demo_clean.specs.Unshown.{NoneShown}
use Rattle.demo_clean.proofs.Chains.{are_chains}
use Rattle.demo_clean.proofs.Trials.{course_netlist, shows_nothing}

-- ---- trials

-- the rule that is shown from power-up on is needed
woken : (rule : Rule) → is_needed rule ≡ false → is_unwoken rule ≡ false
woken NeverWakes is = absurd (cc)
woken _ is = refl

early : (rule : Rule) (trial : ℕ) → is_needed rule ≡ false → is_trial_of rule trial ≡ true → trial < 32
early rule trial other of =
    let before : nat_lt trial 32 ≡ true = sym (ap (λ (b : Bool). cond b (trial == 32) (nat_lt trial 32)) (woken rule other)) ∙ of in
    grind (arith, before)

no_last : (trial : ℕ) → trial < 32 → (trial == 32) ≡ false
no_last trial below =
    elim (cases_Bool (trial == 32)) [
      | inl last ↦ let same = eqb-true trial 32 last in absurd (omega (arith, below, same))
      | inr other ↦ other
    ]

-- ---- designs

pub none_shown : (design : Design) → NoneShown design
none_shown design findings are none finding other =
    Never (λ setup compared trial place is_setup compares of shows.
    let d = flat design in
    let processes = design.is_design.each_process in
    let lawful : AreLawful (flat design) = lawful_processes (flat design) processes in
    let marked = stored d design.processes.items refl in
    let clean : IsCleanDesign d = clean_design d lawful marked (none_needed is_needed (λ one needed. needed) (parts design) findings are none) are.gates are.are_gates in
    let formed = (course_netlist design setup trial shows.moments shows.course).formed in
    let below = early finding.rule trial other of in
    shows_nothing design clean.level (clean.clean (chains_of d) (are_chains d processes formed)) (temporaries_decided d lawful) setup is_setup trial below (no_last trial below)
    compared (λ s is. ((compares s).0 is).lasting) place shows)
