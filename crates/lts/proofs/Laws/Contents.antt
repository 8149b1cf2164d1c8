-- What stands in bytes, member by member: the counts, names and transitions of `table_in`.
use mathlib.Core.Path.{◌≡◌, refl, ap, ◌∙◌}
use mathlib.Core.List.{List, [], ◌∷◌, map}
use Prim.Native.Nat.{ℕ, zero, suc, ◌+◌, ◌*◌, ◌<◌}
use native.Mathlib.Nat.{zero-add}
use native.Mathlib.Omega.{arith}
use lib.ListN.{length, get_or, length-map}
use Rattle.lts.specs.inner.Lists.{up_from}
use Rattle.lts.specs.Steps.{Step, labels}
use Rattle.lts.specs.inner.Prepared.{table_in, byte_at, name_at, transition_at}
use Rattle.lts.proofs.Lists.{up_from-length, up_from-at}

-- A map's members, with a default of either list.
pub map_at : {A B : Type 0} (f : A → B) (l : List A) (i : ℕ) (a : A) (b : B) → i < length l → get_or (map f l) i b ≡ f (get_or l i a)
map_at f [] i a b h = absurd (omega arith)
map_at f (x ∷ l) zero a b h = refl
map_at f (x ∷ l) (suc i) a b h = map_at f l i a b (omega arith)

pub map-up_from-length : {A : Type 0} (f : ℕ → A) (n : ℕ) → length (map f (up_from 0 n)) ≡ n
map-up_from-length f n = length-map (up_from 0 n) f ∙ up_from-length 0 n

pub map-up_from-at : {A : Type 0} (f : ℕ → A) (n i : ℕ) (d : A) → i < n → get_or (map f (up_from 0 n)) i d ≡ f i
map-up_from-at f n i d h =
    let l : i < length (up_from 0 n) = rw up_from-length h in
    map_at f (up_from 0 n) i 0 d l ∙ ap f (up_from-at 0 n i 0 h ∙ zero-add i)

module _ (b : List ℕ) where
  pub labels_in : labels (table_in b) ≡ byte_at b 2
  unfolding table_in
  labels_in = map-up_from-length (name_at b) (byte_at b 2)

  pub transitions_in : length (table_in b).transitions ≡ byte_at b 3 + byte_at b 4 * 256
  unfolding table_in
  transitions_in = map-up_from-length (transition_at b) (byte_at b 3 + byte_at b 4 * 256)

  pub name_in_lem : (k : ℕ) (d : List ℕ) → k < labels (table_in b) → get_or (table_in b).names k d ≡ name_at b k
  unfolding table_in
  name_in_lem k d h = map-up_from-at (name_at b) (byte_at b 2) k d (rw labels_in at h)

  pub transition_in : (k : ℕ) (d : Step) → k < length (table_in b).transitions → get_or (table_in b).transitions k d ≡ transition_at b k
  unfolding table_in
  transition_in k d h = map-up_from-at (transition_at b) (byte_at b 3 + byte_at b 4 * 256) k d (rw transitions_in at h)
