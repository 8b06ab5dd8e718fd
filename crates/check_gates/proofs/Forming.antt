-- Latches by the form of their process and where their signal comes from.
use Rattle.std.proofs.Common.{◌≡◌, ◌∙◌, ℕ, zero, suc, ◌+◌, List, [], ◌∷◌, ◌++◌, length, Option, Some, None, refl, sym, ap, subst, inl, inr}
use Rattle.std.specs.Prelude.{◌⊎◌}
use Rattle.std.specs.List.{slice_get}
use Rattle.std.specs.Option.{IsSomeAnd}
use Rattle.std.proofs.lemmas.Option.{none-some, same_Some}
use Rattle.std.proofs.lemmas.List.{length-append}
use Rattle.text_ground.specs.declared.text.Spot.{Spot}
use Rattle.rtl_flat.specs.Expression.{Tree}
use Rattle.rtl_bits.specs.declared.Bit.{Bit}
use Rattle.rtl_flat.specs.Flats.{Flat, widths}
use Rattle.rtl_flat.specs.Flows.{body_flow, item_reads, list_reads}
use Rattle.rtl_flat.specs.Process.{Watched, If, Actions, Done, Then, Without, Doing, Comb, Task}
use Rattle.rtl_flat.proofs.Paths.{decided}
use Rattle.rtl_rule.specs.Parts.{items_of}
use Rattle.event_model.specs.Queue.{doing_at, doing_of}
use Rattle.net_model.specs.Cycle.{opened}
use Rattle.net_model.specs.Gates.{ComesFrom, Gate, IsGatedLatch, gate_test}
use Rattle.check_gates.specs.Forms.{AreForms, HasBody, HasForm, IsBodyForm, IsFit, IsFormOf, IsNotLone, form_view}
use Rattle.check_gates.specs.declared.form.Form.{Form}

-- the last element of a list, or one before it
pub last_cases : {A : Type 0} (xs : List A) (x : A) (n : ℕ) (y : A) → slice_get (xs ++ x ∷ []) n ≡ Some y → (slice_get xs n ≡ Some y) ⊎ ((n ≡ length xs) × (y ≡ x))
last_cases [] x zero y h = inr (refl, sym (same_Some x y h))
last_cases [] x (suc n) y h = absurd (none-some _ h)
last_cases (z ∷ xs) x zero y h = inl h
last_cases (z ∷ xs) x (suc n) y h = elim (last_cases xs x n y h) [
  | inl before ↦ inl before
  | inr (last, same) ↦ inr (ap suc last, same)
]

-- what a list's indices read
items_read : (ws : ℕ → ℕ) (list : Option (List Watched)) (body : Actions) (i k : ℕ) → list_reads ws list i k ≡ item_reads ws (items_of (Comb list body)) i k
items_read ws None body i k = refl
items_read ws (Some items) body i k = refl

module _ (d : Flat) (p : ℕ) where
  pub latch_of : (list : Option (List Watched)) (body : Actions) (gate : Gate) → doing_at d p ≡ Some (Comb list body) → HasBody d (Comb list body) body gate.signal gate.opens → ComesFrom d gate.input gate.signal → IsGatedLatch d p gate
  latch_of list body gate does has comes =
      let ws = widths d in
      let fit = has.fit in
      let may = λ (i k : ℕ). decided (body_flow ws body) i k in
      record {
        list = list;
        body = body;
        test = has.test;
        branch = has.branch;
        spot = has.spot;
        does = does;
        whole = has.whole;
        tests = has.tests;
        one_bit = fit.one_bit;
        comes = comes;
        writes = λ i k w. (decided (body_flow ws has.branch) i k).sure_now.0 (fit.writes.writes i k ((may i k).writes.1 w));
        holds = let (i, k, w, lasting) = fit.writes.holds in (i, k, (may i k).writes.0 w, lasting);
        apart = λ i k r w. fit.reads.apart i k ((may i k).outside.1 r) ((may i k).writes.1 w);
        list_apart = λ i k r w. fit.reads.list_apart i k (sym (items_read ws list body i k) ∙ r) ((may i k).writes.1 w);
        once = λ k r. fit.reads.once k ((decided (body_flow ws has.branch) gate.signal k).reads.1 r);
        list_once = λ k r. fit.reads.list_once k (sym (items_read ws list body gate.signal k) ∙ r);
      }

  pub body_from : (gate : Gate) → (latch : IsGatedLatch d p gate) → HasBody d (Comb latch.list latch.body) latch.body gate.signal gate.opens
  body_from gate latch =
      let ws = widths d in
      let may = λ (i k : ℕ). decided (body_flow ws latch.body) i k in
      record {
        test = latch.test;
        branch = latch.branch;
        spot = latch.spot;
        whole = latch.whole;
        tests = latch.tests;
        fit = record {
          one_bit = latch.one_bit;
          writes = record {
            writes = λ i k w. (decided (body_flow ws latch.branch) i k).sure_now.1 (latch.writes i k ((may i k).writes.0 w));
            holds = let (i, k, w, lasting) = latch.holds in (i, k, (may i k).writes.1 w, lasting);
          };
          reads = record {
            apart = λ i k r w. latch.apart i k ((may i k).outside.0 r) ((may i k).writes.0 w);
            list_apart = λ i k r w. latch.list_apart i k (items_read ws latch.list latch.body i k ∙ r) ((may i k).writes.0 w);
            once = λ k r. latch.once k ((decided (body_flow ws latch.branch) gate.signal k).reads.0 r);
            list_once = λ k r. latch.list_once k (items_read ws latch.list latch.body gate.signal k ∙ r);
          };
        };
      }

  -- for a process that is there
  module _ (task : Task) (there : slice_get d.tasks p ≡ Some task) where
    doing_there : doing_at d p ≡ Some task.does
    doing_there = ap doing_of there

    pub latch_from : (gate : Gate) → HasForm d task.does gate.signal gate.opens → ComesFrom d gate.input gate.signal → IsGatedLatch d p gate
    latch_from gate form comes =
        latch_of form.list form.body gate (doing_there ∙ ap Some form.is) (subst (λ (does : Doing). HasBody d does form.body gate.signal gate.opens) form.is form.has) comes

    pub form_from : (gate : Gate) → IsGatedLatch d p gate → HasForm d task.does gate.signal gate.opens
    form_from gate latch =
        let is : task.does ≡ Comb latch.list latch.body = same_Some _ _ (sym doing_there ∙ latch.does) in
        record {
          list = latch.list;
          body = latch.body;
          is = is;
          has = subst (λ (does : Doing). HasBody d does latch.body gate.signal gate.opens) (sym is) (body_from gate latch);
        }

-- ---- the form of a process

abbrev body_in : Actions → Doing → Actions
body_in otherwise (Comb list body) = body
body_in otherwise _ = otherwise

module _ (d : Flat) where
  -- a process of another kind has none
  pub no_form : (does : Doing) → ((list : Option (List Watched)) (body : Actions) → does ≡ Comb list body → ⊥) → IsFormOf d does None
  no_form does other signal opens =
      (λ h. absurd (none-some _ h), λ form. absurd (other form.list form.body form.is))

  -- one without edges has that of its body
  pub comb_form : (does : Doing) (list : Option (List Watched)) (body : Actions) (form : Option Form) → does ≡ Comb list body → IsBodyForm d does body form → IsFormOf d does form
  comb_form does list body form comb is signal opens = (
    λ h. record { list = list; body = body; is = comb; has = (is signal opens).0 h },
    λ has. (is signal opens).1 (subst (λ (b : Actions). HasBody d does b signal opens) (ap (body_in body) (sym has.is ∙ comb)) has.has),
  )

-- ---- the form of a body

-- a body that is no `if` without `else`
pub unalone : (d : Flat) (does : Doing) (body : Actions) → IsNotLone (opened body) → IsBodyForm d does body None
unalone d does body not_lone signal opens =
    (λ h. absurd (none-some _ h), λ has. absurd (not_lone has.test has.branch has.spot has.whole))

abbrev test_in : Tree → Actions → Tree
test_in otherwise (Then (If test branch Without spot) Done) = test
test_in otherwise _ = otherwise

abbrev branch_in : Actions → Actions → Actions
branch_in otherwise (Then (If test branch Without spot) Done) = branch
branch_in otherwise _ = otherwise

module _ (d : Flat) (does : Doing) (body : Actions) (test : Tree) (branch : Actions) (spot : Spot) (whole : opened body ≡ Then (If test branch Without spot) Done) where
  body_test : (signal : ℕ) (opens : Bit) → HasBody d does body signal opens → gate_test test ≡ Some (signal, opens)
  body_test signal opens has =
      ap (λ (all : Actions). gate_test (test_in test all)) (sym whole ∙ has.whole) ∙ has.tests

  body_fit : (signal : ℕ) (opens : Bit) → HasBody d does body signal opens → IsFit d does branch signal
  body_fit signal opens has =
      subst (λ (b : Actions). IsFit d does b signal) (ap (branch_in branch) (sym has.whole ∙ whole)) has.fit

  pub form_untested : gate_test test ≡ None → IsBodyForm d does body None
  form_untested none signal opens =
      (λ h. absurd (none-some _ h), λ has. absurd (none-some _ (sym none ∙ body_test signal opens has)))

  module _ (form : Form) (tests : gate_test test ≡ Some (form_view form)) where
    same_form : (signal : ℕ) (opens : Bit) → HasBody d does body signal opens → form_view form ≡ (signal, opens)
    same_form signal opens has = same_Some _ _ (sym tests ∙ body_test signal opens has)

    pub form_unfit : (IsFit d does branch form.signal.0 → ⊥) → IsBodyForm d does body None
    form_unfit other signal opens = (
      λ h. absurd (none-some _ h),
      λ has. absurd (other (subst (IsFit d does branch) (sym (ap (λ (v : ℕ × Bit). v.0) (same_form signal opens has))) (body_fit signal opens has))),
    )

    pub form_fit : IsFit d does branch form.signal.0 → IsBodyForm d does body (Some form)
    form_fit fit signal opens = (
      λ h. (let same = same_Some (form_view form) (signal, opens) h in
          record {
            test = test;
            branch = branch;
            spot = spot;
            whole = whole;
            tests = tests ∙ h;
            fit = subst (IsFit d does branch) (ap (λ (v : ℕ × Bit). v.0) same) fit;
          }),
      λ has. ap Some (same_form signal opens has),
    )

-- ---- the forms of processes

pub forms_none : (d : Flat) → AreForms d 0 []
forms_none d = record { size = refl; each = λ p form h. absurd (none-some _ h) }

pub forms_next : (d : Flat) (n : ℕ) (task : Task) (old new : List (Option Form)) (form : Option Form) → slice_get d.tasks n ≡ Some task → AreForms d n old → IsFormOf d task.does form → new ≡ old ++ form ∷ [] → AreForms d (n + 1) new
forms_next d n task old new form there are is more =
    subst (AreForms d (n + 1)) (sym more) (record {
      size = length-append old (form ∷ []) ∙ ap (λ m. m + 1) are.size;
      each = λ p one h. by p one (last_cases old form p one h);
    })
  where
    by : (p : ℕ) (one : Option Form) → (slice_get old p ≡ Some one) ⊎ ((p ≡ length old) × (one ≡ form)) → IsSomeAnd (slice_get d.tasks p) (λ task. IsFormOf d task.does one)
    by p one (inl before) = are.each p one before
    by p one (inr (last, same)) =
        subst (λ (f : Option Form). IsSomeAnd (slice_get d.tasks p) (λ task. IsFormOf d task.does f)) (sym same)
        (subst (λ o. IsSomeAnd o (λ task. IsFormOf d task.does form)) (sym (ap (slice_get d.tasks) (last ∙ are.size) ∙ there)) is)
