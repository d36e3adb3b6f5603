-- The table where a chore has gone from its owner to another agent.
-- Assumes nothing.
use Prim.Native.Nat.{ℕ, ◌+◌, ◌-◌, ◌*◌, ◌<◌}
use mathlib.Core.Bool.{Bool, false, not, ◌&&◌, ◌||◌, and-true, or-false}
use mathlib.Core.List.{List}
use mathlib.Core.Path.{◌≡◌, refl, sym, ap, ◌∙◌}
use native.Mathlib.Omega.{arith}
use lib.Dec.{eqb}
use lib.ListN.{length, set}
use lib.Seq.{get_or-set_same, get_or-set_other}
use borrow.Author.Tests.{eq-eqb, ne_eqb}
use Rattle.finite.specs.Bits.{SetOf}
use Rattle.finite.proofs.Tests.{and_no_left, and_no_right, or_right, not_off, eqb_same}
use Rattle.finite.proofs.Below.{by_less, by_same}
use Rattle.model.specs.Limits.{max_agents}
use Rattle.model.specs.Instance.{owner_of}
use Rattle.model.specs.Fairness.{owns}
use Rattle.firsts.specs.Traits.{trait_count}
use Rattle.firsts.specs.Table.{Row, Sized, Gained, Lost, HandedOn}
use Rattle.firsts.proofs.AgentRow.{row_cong, row_kept, row_gained, gained_sets, gained-other, beyond}

-- chore c is agent u's now, and every other its owner's
module _ (owners : List ℕ) {c : ℕ} (u : ℕ) (below : c < length owners) where
  owner_here : owner_of (set owners c (u + 1)) c ≡ u
  unfolding owner_of
  owner_here = rw (get_or-set_same owners c (u + 1) 0 below) (omega arith)

  owner_other : (d : ℕ) → (d ≡ c → ⊥) → owner_of (set owners c (u + 1)) d ≡ owner_of owners d
  unfolding owner_of
  owner_other d ne = ap (λ o. o - 1) (get_or-set_other owners c d (u + 1) 0 ne)

  -- agent u holds it
  pub holds_more : (d : ℕ) → (owns (owner_of owners) u d && not (eqb d c) || eqb d c) ≡ owns (owner_of (set owners c (u + 1))) u d
  unfolding owns
  holds_more d =
      by_same d c
      (λ e. rw e (or_right (eqb (owner_of owners c) u && not (eqb c c)) (eqb_same c) ∙ sym (eq-eqb (owner_of (set owners c (u + 1)) c) u owner_here)))
      (λ ne. rw (ne_eqb d c ne, owner_other d ne, and-true (eqb (owner_of owners d) u)) (or-false (eqb (owner_of owners d) u)))

  -- no other agent does
  pub holds_less : (v : ℕ) → (v ≡ u → ⊥) → (d : ℕ) → (owns (owner_of owners) v d && not (eqb d c)) ≡ owns (owner_of (set owners c (u + 1))) v d
  unfolding owns
  holds_less v other d =
      by_same d c
      (λ e. rw e (and_no_right (eqb (owner_of owners c) v) (not_off (eqb_same c)) ∙ sym (ne_eqb (owner_of (set owners c (u + 1)) c) v (λ q. other (sym q ∙ owner_here)))))
      (λ ne. rw (ne_eqb d c ne, owner_other d ne) (and-true (eqb (owner_of owners d) v)))

module _ {c u w word : ℕ} {trait : ℕ → ℕ → Bool} {first sets mid marks first' sets' : List ℕ} (owners : List ℕ)
    (below : c < length owners) (to : owner_of owners c ≡ w) (small : u < max_agents) (traits : SetOf trait_count word (λ t. trait t c))
    (lost : Lost (length owners) (owner_of owners) trait w c first sets mid marks) (g : Gained u c word mid marks first' sets') where
  -- no agent holds chore c for a while
  row_off : (v : ℕ) → Sized first sets → Row (length owners) (owns (owner_of owners) v) trait v first sets → Row (length owners) (λ d. owns (owner_of owners) v d && not (eqb d c)) trait v mid marks
  unfolding owns
  row_off v z r =
      by_same v w
      (λ e. rw e (lost.own (eq-eqb (owner_of owners c) w to) (rw e at r)))
      (λ ne.
      row_kept
      (λ t l. by_less v max_agents (λ few. lost.others v t few l ne) (λ many. beyond v t first mid z.first_sized lost.size many))
      (lost.other_sets v ne)
      (row_cong (λ d _. sym (not_mine v ne d)) r))
    where
      not_mine : (v : ℕ) → (v ≡ w → ⊥) → (d : ℕ) → (eqb (owner_of owners d) v && not (eqb d c)) ≡ eqb (owner_of owners d) v
      not_mine v ne d =
          by_same d c
          (λ e. let other : eqb (owner_of owners c) v ≡ false = ne_eqb (owner_of owners c) v (λ q. ne (sym q ∙ to)) in rw e (and_no_left (not (eqb c c)) other ∙ sym other))
          (λ o. rw (ne_eqb d c o) (and-true (eqb (owner_of owners d) v)))

  pub handed_on : HandedOn trait c u owners first sets (set owners c (u + 1)) first' sets'
  handed_on =
      record {
        made = refl;
        kept = λ n l f.
            let z = f.sized in
            let size : length mid ≡ max_agents * trait_count = lost.size ∙ z.first_sized in
            let room : u < length marks = omega (arith, lost.sets_size, z.sets_sized) in
            record {
              sized = record { first_sized = g.size ∙ size; sets_sized = gained_sets g ∙ lost.sets_size ∙ z.sets_sized };
              row = λ v h.
                  by_same v u
                  (λ e. rw e (row_cong (λ d _. holds_more owners u below d) (row_gained traits (row_off u z (f.row u l)) below small room g)))
                  (λ ne. row_cong (λ d _. holds_less owners u below v ne d) (gained-other size g ne (row_off v z (f.row v h))));
            };
      }
