-- Which action a state calls for, case by case, and what a step then comes to.
-- Assumes nothing.
use Prim.Native.Nat.{ℕ, ◌+◌, ◌<◌}
use mathlib.Core.Bool.{true, false, ◌&&◌}
use mathlib.Core.Path.{◌≡◌, refl, sym, ap, ◌∙◌}
use native.Mathlib.Omega.{arith}
use lib.Dec.{ltb}
use borrow.Author.Tests.{lt-ltb, eq-eqb, ne_eqb}
use Rattle.finite.specs.Search.{any_below}
use Rattle.finite.proofs.Tests.{cond_true, cond_false, by_test}
use Rattle.finite.proofs.Below.{by_less}
use Rattle.model.specs.Instance.{Instance}
use Rattle.model.specs.Step2a.{giver2a, receiver2a, due2a, chore2a}
use Rattle.model.specs.Step2b.{above, due2b, giver2b, receiver2b, chore2b}
use Rattle.model.specs.Algorithm.{State, Action, hand, pass, cut, stop, lack, busy, owner, price, group, is_entitled, action2a, action2b, action, handed, after_cut, result, step}

module _ (I : Instance) (s : State) where
  pub stepped : {a : Action} → action I s ≡ a → step I s ≡ result I s a
  unfolding step
  stepped e = ap (result I s) e

  in_2b : s.stage ≡ 0 → action I s ≡ action2b I s
  unfolding action
  in_2b e = cond_true _ _ (eq-eqb s.stage 0 e)

  in_2a : 0 < s.stage → action I s ≡ action2a I s
  unfolding action
  in_2a h = cond_false _ _ (ne_eqb s.stage 0 (λ e. omega arith))

  pub hands2b : s.stage ≡ 0 → due2b I (owner I s) (price I s) ≡ true → receiver2b I (owner I s) (price I s) < I.n → chore2b I (owner I s) (price I s) < I.m → action I s ≡ hand (chore2b I (owner I s) (price I s)) (giver2b I (owner I s) (price I s)) (receiver2b I (owner I s) (price I s))
  unfolding action2b
  hands2b e h r c = in_2b e ∙ rw (h, lt-ltb _ _ r, lt-ltb _ _ c)

  pub cuts2b : s.stage ≡ 0 → due2b I (owner I s) (price I s) ≡ false → any_below I.n (above I (owner I s) (price I s)) ≡ true → action I s ≡ cut
  unfolding action2b
  cuts2b e h a = in_2b e ∙ rw (h, a)

  pub stops2b : s.stage ≡ 0 → due2b I (owner I s) (price I s) ≡ false → any_below I.n (above I (owner I s) (price I s)) ≡ false → action I s ≡ stop
  unfolding action2b
  stops2b e h a = in_2b e ∙ rw (h, a)

  pub hands2a : 0 < s.stage → due2a I (owner I s) (price I s) (group I s) (is_entitled I s) s.stage ≡ true → chore2a I (owner I s) (price I s) (group I s) (is_entitled I s) s.stage < I.m → action I s ≡ hand (chore2a I (owner I s) (price I s) (group I s) (is_entitled I s) s.stage) (giver2a I (owner I s) (price I s) (group I s) (is_entitled I s) s.stage) (receiver2a I (owner I s) (price I s) (group I s) (is_entitled I s) s.stage)
  unfolding action2a
  hands2a some h c = in_2a some ∙ rw (h, lt-ltb _ _ c)

  pub passes2a : 0 < s.stage → due2a I (owner I s) (price I s) (group I s) (is_entitled I s) s.stage ≡ false → action I s ≡ pass
  unfolding action2a
  passes2a some h = in_2a some ∙ rw h

  -- passing on is the one action that goes on and changes neither counter
  quiet : {t : State} (a : Action) → result I s a ≡ busy t → t.moves ≡ s.moves → t.cuts ≡ s.cuts → a ≡ pass
  unfolding result handed after_cut
  quiet {t} (hand c w u) e m k = let z : s.moves + 1 ≡ s.moves = cc (e, m) in absurd (omega arith)
  quiet pass e m k = refl
  quiet {t} cut e m k = let z : s.cuts + 1 ≡ s.cuts = cc (e, k) in absurd (omega arith)
  quiet stop e m k = let z : ◌≡◌ {A = ℕ} 0 1 = cc e in absurd (omega arith)
  quiet lack e m k = let z : ◌≡◌ {A = ℕ} 0 1 = cc e in absurd (omega arith)

  -- 2b passes nothing on
  never_passes : action2b I s ≡ pass → ⊥
  unfolding action2b
  never_passes q =
      by_test (due2b I (owner I s) (price I s))
      (λ h. by_test (ltb (receiver2b I (owner I s) (price I s)) I.n && ltb (chore2b I (owner I s) (price I s)) I.m)
      (λ r. let z : ◌≡◌ {A = ℕ} 0 1 = cc (rw (h, r) at q) in absurd (omega arith))
      (λ r. let z : ◌≡◌ {A = ℕ} 0 1 = cc (rw (h, r) at q) in absurd (omega arith)))
      (λ h. by_test (any_below I.n (above I (owner I s) (price I s)))
      (λ r. let z : ◌≡◌ {A = ℕ} 0 1 = cc (rw (h, r) at q) in absurd (omega arith))
      (λ r. let z : ◌≡◌ {A = ℕ} 0 1 = cc (rw (h, r) at q) in absurd (omega arith)))

  -- so a step that changes neither counter is one of 2a
  pub passing : {t : State} → step I s ≡ busy t → t.moves ≡ s.moves → t.cuts ≡ s.cuts → 0 < s.stage
  unfolding step
  passing e m k =
      by_less 0 s.stage (λ h. h)
      (λ h. absurd (never_passes (sym (in_2b (omega arith)) ∙ quiet (action I s) e m k)))
