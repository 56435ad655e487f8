-- What a prefix of a stream may become, according to the page Synchronization of the MediaPipe framework. Further packets come
-- at its bound or above, and its bound only moves up.
use Rattle.std.specs.Prelude.{◌≡◌, ◌≤◌, List, ◌++◌, All}
use Rattle.std.specs.List.{AllZip}
use Rattle.mg_value.specs.Packet.{Stamped}
use Rattle.mg_settled.specs.Prefix.{StreamPrefix}

-- a prefix is extended by another: its packets come first in the other, and its bound is at most the other's. Each further
-- packet of the other stands at the first prefix's bound or above
pub record IsExtendedBy {X : Type 0} (s t : StreamPrefix X) : Type 0 where
  pub further : List (Stamped X)
  pub packets : t.packets ≡ s.packets ++ further
  pub bound : s.bound ≤ t.bound
  pub above : All (λ p. s.bound ≤ p.at) further

-- each prefix of a list is extended by the one at its place in the other list
abbrev pub AreExtendedBy : {X : Type 0} → List (StreamPrefix X) → List (StreamPrefix X) → Type 0
AreExtendedBy ss ts = AllZip IsExtendedBy ss ts
