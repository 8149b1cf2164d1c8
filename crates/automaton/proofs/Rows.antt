-- Rows that are reached, stand once and have the goals of their moves among them: their edges are the steps between rows, in order.
use mathlib.Core.Path.{◌≡◌, refl, sym, ap, ◌∙◌, subst, subst₂}
use mathlib.Core.Logic.{◌⊎◌, inl, inr}
use mathlib.Core.List.Memᴰ
use mathlib.Core.List.{List, map, Memᴰ}
use Prim.Native.Nat.{ℕ, ◌<◌}
use lib.ListN.{length}
use Rattle.lts.specs.Lists.{Rising}
use Rattle.lts.specs.Steps.{Table}
use Rattle.lts.specs.inner.Range.{InRange}
use Rattle.lts.proofs.Lists.{map_of, map-to, map-rising, get_d_mem}
use Rattle.actl.specs.Formulas.{Formula}
use Rattle.actl.proofs.Classes.{HasClass}
use Rattle.automaton.specs.Positions.{Position, at, root_at, Joins, Reached, begin, onward, CanFinish}
use Rattle.automaton.specs.inner.Search.{can_finish, number_of, Move, position_at, moves_upto, edge_of}
use Rattle.automaton.specs.Listing.{Edge}
use Rattle.automaton.specs.Listed.{PositionBelow}
use Rattle.automaton.proofs.Tests.{leads-inside}
use Rattle.automaton.proofs.Finishing.{step_finishes, can_finish-is}
use Rattle.automaton.proofs.Numbers.{number_mem, number-found}
use Rattle.automaton.proofs.Moves.{IsMove, Sooner, moves-to, upto_of, upto_to, upto_rising}

pub reached_finishes : {t : Table} {F : Formula} {p : Position} → Reached t F p → CanFinish t F p → CanFinish t F (root_at t)
reached_finishes begin u = u
reached_finishes (onward h j) u = reached_finishes h (step_finishes j u)

pub record ClosedRows (t : Table) (F : Formula) (R : List Position) : Type 0 where
  pub in_row : (i : ℕ) → i < length R → number_of R (position_at R i) ≡ i
  pub reached : (p : Position) → Memᴰ p R → Reached t F p
  pub root-or_finishing : (p : Position) → Memᴰ p R → (p ≡ root_at t) ⊎ CanFinish t F p
  pub goals : (m : Move) → Memᴰ m (moves_upto t F R (length R)) → Memᴰ m.goal R

abbrev pub edges_of : Table → Formula → List Position → List Edge
edges_of t F R = map (edge_of R) (moves_upto t F R (length R))

-- The order of edges, over positions.
abbrev pub BeforeIn : List Position → Edge → Edge → Type 0
BeforeIn R a b = (a.row < b.row) ⊎ ((a.row ≡ b.row) × ((a.label < b.label) ⊎ ((a.label ≡ b.label) × PositionBelow (position_at R a.target) (position_at R b.target))))

-- What an edge has to be.
pub record IsEdge (t : Table) (F : Formula) (R : List Position) (e : Edge) : Type 0 where
  pub leaves-row : e.row < length R
  pub enters-row : e.target < length R
  pub joins : Joins t F (position_at R e.row) e.label (position_at R e.target)
  pub root_finishes : CanFinish t F (root_at t)

module _ (t : Table) (F : Formula) (w : InRange t) (c : HasClass F) where
  pub move_finishes : {i : ℕ} {p : Position} {m : Move} → IsMove (can_finish t F) t F i p m → CanFinish t F m.goal
  move_finishes {m} h = (can_finish-is t F c m.goal (leads-inside h.joins.1)).0 h.entered

  pub move-listed : (R : List Position) (i l : ℕ) (g : Position) → i < length R → Joins t F (position_at R i) l g → CanFinish t F g
      → Memᴰ (record { row = i; label = l; goal = g }) (moves_upto t F R (length R))
  move-listed R i l g b j u = upto_to (can_finish t F) t F R (length R) i b (moves-to (can_finish t F) t F w i (position_at R i) l g j ((can_finish-is t F c g (leads-inside j.1)).1 u))

  module _ (R : List Position) (h : ClosedRows t F R) where
    abbrev M : List Move
    M = moves_upto t F R (length R)

    found : {m : Move} → Memᴰ m M → position_at R (number_of R m.goal) ≡ m.goal
    found {m} n = number-found R m.goal (at 0 0) (number_mem (h.goals m n))

    row_finishes_lem : CanFinish t F (root_at t) → (p : Position) → (p ≡ root_at t) ⊎ CanFinish t F p → CanFinish t F p
    row_finishes_lem u p (inl e) = subst (CanFinish t F) (sym e) u
    row_finishes_lem u p (inr d) = d

    edge-of-move : (m : Move) → Memᴰ m M → IsEdge t F R (edge_of R m)
    edge-of-move m n =
        let (b, k) = upto_of (can_finish t F) t F R (length R) n in
        let x = position_at R m.row in
        record {
          leaves-row = b;
          enters-row = number_mem (h.goals m n);
          joins = subst (Joins t F x m.label) (sym (found n)) k.joins;
          root_finishes = reached_finishes (h.reached x (get_d_mem R m.row (at 0 0) b)) (step_finishes k.joins (move_finishes k));
        }

    pub edges-of : (e : Edge) → Memᴰ e (edges_of t F R) → IsEdge t F R e
    edges-of e n = let (m, k, z) = map_of (edge_of R) M n in subst (IsEdge t F R) (sym z) (edge-of-move m k)

    pub edges-to : (e : Edge) → IsEdge t F R e → Memᴰ e (edges_of t F R)
    edges-to e k =
        let g = position_at R e.target in
        let z = h.in_row e.target k.enters-row in
        let u = row_finishes_lem k.root_finishes g (h.root-or_finishing g (get_d_mem R e.target (at 0 0) k.enters-row)) in
        Memᴰ.cast (λ i. record { row = e.row; label = e.label; target = sym z i })
        (map-to (edge_of R) (move-listed R e.row e.label g k.leaves-row k.joins u))

    before : (x y : Move) → Memᴰ x M → Memᴰ y M → Sooner x y → BeforeIn R (edge_of R x) (edge_of R y)
    before x y m n (inl z) = inl z
    before x y m n (inr (e, inl z)) = inr (e, inl z)
    before x y m n (inr (e, inr (d, b))) = inr (e, inr (d, subst₂ PositionBelow (sym (found m)) (sym (found n)) b))

    pub edges-rising : Rising (BeforeIn R) (edges_of t F R)
    edges-rising = map-rising (edge_of R) Sooner (BeforeIn R) M before (upto_rising (can_finish t F) t F w R (length R))
