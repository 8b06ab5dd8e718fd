-- The events that a simulator takes are settled by the design, its levels and the order: so are the lines of its steps.
use Rattle.std.proofs.Common.{◌≡◌, ◌∙◌, ℕ, ◌+◌, ◌<◌, List, [], ◌∷◌, length, Option, refl, sym, ap, subst}
use Rattle.rtl_flat.specs.declared.instance.Instance.{Instance}
use Rattle.rtl_flat.specs.declared.signal.Signal.{Signal}
use Rattle.rtl_flat.specs.Process.{Task}
use Rattle.event_model.specs.declared.policy.Policy.{Policy}
use Rattle.event_model.specs.Queue.{State, power_up}
use Rattle.rtl_flat.specs.Flats.{Flat}
use Rattle.desk_steps.specs.Steps.{Setting, Steps}
use Rattle.desk_runs.specs.Lines.{rested_line}
use Rattle.desk_runs.specs.Runs.{Ended, IsRun, IsSimulated, Rested, Shown, Stopped, behind, offered}
use Rattle.demo_laws.proofs.event_laws_proofs.OneLevel.{level_once, same_choice}
use Rattle.demo_laws.proofs.event_laws_proofs.OneRun.{moved, one_rest, rests_or_stops}

-- ---- by other levels that agree

module _ (policy : Policy) (f g : ℕ → Option ℕ) (d : Flat) (all : (p : ℕ) → p < length d.tasks → f p ≡ g p) where
  moved_steps : (instances : List Instance) (number : ℕ) (s : State) (steps : List (List Setting)) (shown : Shown) → IsRun instances policy f d number s steps shown → IsRun instances policy g d number s steps shown
  moved_steps instances number s steps shown (Ended n u) = Ended n u
  moved_steps instances number s steps shown (Rested n spent left u t step others shows sum run done more) =
      Rested n spent left u t step others shows sum (moved policy f g d all (offered u step) t spent run) (sym (same_choice f g policy d t all) ∙ done)
      (moved_steps instances (n + 1) t others shows more)
  moved_steps instances number s steps shown (Stopped n spent left u t step others sum run dear) =
      Stopped n spent left u t step others sum (moved policy f g d all (offered u step) t spent run)
      (record { event = dear.event; next = sym (same_choice f g policy d t all) ∙ dear.next; dear = dear.dear })

module _ (policy : Policy) (level : ℕ → Option ℕ) (d : Flat) where
  one_showing : (instances : List Instance) (number : ℕ) (s : State) (steps : List (List Setting)) (one other : Shown) → IsRun instances policy level d number s steps one → IsRun instances policy level d number s steps other → one ≡ other
  one_showing instances number s [] one other (Ended n u) (Ended m v) = refl
  one_showing instances number s (step ∷ steps) one other (Rested n spent left u t act acts shows sum run done more) (Rested m spent' left' v t' act' acts' shows' sum' run' done' more') =
      let same : t ≡ t' = one_rest policy level d (offered s step) t t' spent spent' run done run' done' in
      let next : IsRun instances policy level d (number + 1) t steps shows' = subst (λ (x : State). IsRun instances policy level d (number + 1) x steps shows') (sym same) more' in
      ap (λ (x : State). behind (rested_line instances d.signals number x.value) shows) same
      ∙ ap (behind (rested_line instances d.signals number t'.value)) (one_showing instances (number + 1) t steps shows shows' more next)
  one_showing instances number s (step ∷ steps) one other (Rested n spent left u t act acts shows sum run done more) (Stopped m spent' left' v t' act' acts' sum' run' dear) =
      absurd (rests_or_stops policy level d (offered s step) t t' spent spent' left left' sum run done sum' run' dear)
  one_showing instances number s (step ∷ steps) one other (Stopped m spent' left' v t' act' acts' sum' run' dear) (Rested n spent left u t act acts shows sum run done more) =
      absurd (rests_or_stops policy level d (offered s step) t t' spent spent' left left' sum run done sum' run' dear)
  one_showing instances number s (step ∷ steps) one other (Stopped n spent left u t act acts sum run dear) (Stopped m spent' left' v t' act' acts' sum' run' dear') = refl

pub one_run : (signals : List Signal) (tasks : List Task) (instances : List Instance) (steps : Steps) (one other : Shown) → IsSimulated signals tasks instances steps one → IsSimulated signals tasks instances steps other → one ≡ other
one_run signals tasks instances steps one other first second =
    let d : Flat = record { signals = signals; tasks = tasks } in
    let alike : (p : ℕ) → p < length d.tasks → second.level p ≡ first.level p = λ p below. level_once signals tasks p (second.level p) (first.level p) (second.levels p below) (first.levels p below) in
    one_showing steps.policy first.level d instances 1 (power_up d) steps.steps one other first.run
    (moved_steps steps.policy second.level first.level d alike instances 1 (power_up d) steps.steps other second.run)
