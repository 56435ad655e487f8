-- All of one set are put into another, one after the other.
use Rattle.std.proofs.Common.{ℕ, ◌↔◌, ◌⊎◌, inl, inr, sym, subst}
use Rattle.std.proofs.lemmas.Bool.{cases_eq}
use Rattle.mg_ready.specs.Ready.{ReadyNodes, IsIn, IsEmpty, IsHighest, ChangesOnly}

-- so far
pub record Pours (from from_now into into_now : ReadyNodes) : Type 0 where
  pub stays : (n : ℕ) → IsIn into n → IsIn into_now n
  pub comes : (n : ℕ) → IsIn from n → IsIn into_now n ⊎ IsIn from_now n
  pub only : (n : ℕ) → IsIn into_now n → IsIn into n ⊎ IsIn from n
  pub left : (n : ℕ) → IsIn from_now n → IsIn from n

pub pours_none : (from into : ReadyNodes) → Pours from from into into
pours_none from into = record { stays = λ n h. h; comes = λ n h. inr h; only = λ n h. inl h; left = λ n h. h }

pub pours_more : (from mid from_now into between into_now : ReadyNodes) (p : ℕ) → Pours from mid into between → IsHighest mid p → ChangesOnly mid from_now p → IsIn into_now p → ChangesOnly between into_now p → Pours from from_now into into_now
pours_more from mid from_now into between into_now p h highest took there put =
    let was : IsIn mid p = (highest.place, highest.here) in
    let kept : (n : ℕ) → IsIn between n → IsIn into_now n = λ n here. elim (cases_eq n p) [
      | inl same ↦ subst (λ (k : ℕ). IsIn into_now k) (sym same) there
      | inr other ↦ (put.others n other).1 here
    ] in
    let before : (n : ℕ) → IsIn from_now n → IsIn mid n = λ n here. elim (cases_eq n p) [
      | inl same ↦ subst (λ (k : ℕ). IsIn mid k) (sym same) was
      | inr other ↦ (took.others n other).0 here
    ] in
    record {
      stays = λ n here. kept n (h.stays n here);
      comes = λ n here. elim (cases_eq n p) [
        | inl same ↦ inl (subst (λ (k : ℕ). IsIn into_now k) (sym same) there)
        | inr other ↦ elim (h.comes n here) [
          | inl came ↦ inl (kept n came)
          | inr waits ↦ inr ((took.others n other).1 waits)
        ]
      ];
      only = λ n here. elim (cases_eq n p) [
        | inl same ↦ inr (h.left n (subst (λ (k : ℕ). IsIn mid k) (sym same) was))
        | inr other ↦ h.only n ((put.others n other).0 here)
      ];
      left = λ n here. h.left n (before n here);
    }

pub poured : (from from_now into into_now : ReadyNodes) → Pours from from_now into into_now → IsEmpty from_now → (n : ℕ) → IsIn into_now n ↔ (IsIn into n ⊎ IsIn from n)
poured from from_now into into_now h none n = (
  h.only n,
  λ here. elim here [
    | inl there ↦ h.stays n there
    | inr first ↦ elim (h.comes n first) [
      | inl came ↦ came
      | inr waits ↦ absurd (none n waits)
    ]
  ],
)
