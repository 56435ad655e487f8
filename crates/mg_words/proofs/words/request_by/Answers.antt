use Rattle.std.proofs.Common.{◌≡◌, ◌∙◌, ◌⊎◌, sym, subst, map, Result, Ok, Err, IfOk, OnOk}
use Rattle.std.proofs.lemmas.Result.{IfOk-weaker}
use Rattle.clap.specs.Words.{app_of, found_of, rows_of, fault_of, IsAmong}
use Rattle.clap.specs.declared.error.kind.ErrorKind.TheVariants.{OutOfMemory}
use Rattle.mg_words.proofs.Asking.{is-simple, is-free, taken-request, refused-request}
use Rattle.mg_words.proofs.words.request_by.Goals as goal

pub returns-in-Ok : goal.returns-in-Ok
returns-in-Ok c =
    let given = c.in_ok-command.ensures in
    let words = map (λ word. word.now) c.args.words.now in
    let app = app_of c.in_ok-command.command in
    IfOk-weaker c.request_from.result _ _
    (λ request is. is ∙ taken-request given.0 given.1 app given.2 words (rows_of (found_of c.in-Ok.matches))
    (c.in-Ok.ensures.matches (is-simple given.0 given.1 app given.2 words)).0 (c.in-Ok.ensures.kinds (is-free given.0 given.1 app given.2 words)))
    c.request_from.ensures

both : {T E : Type 0} (r : Result T E) (Q : Type 0) (P R : T → Type 0) → OnOk r Q → IfOk r P → (Q → (x : T) → P x → R x) → IfOk r R
both (Ok x) Q P R some is then = then some x is
both (Err e) Q P R some is then = tt

pub returns-in-Err : goal.returns-in-Err
returns-in-Err c =
    let given = c.in_ok-command.ensures in
    let words = map (λ word. word.now) c.args.words.now in
    let app = app_of c.in_ok-command.command in
    let has = subst (λ kind. (kind ≡ OutOfMemory) ⊎ IsAmong kind (fault_of app words)) (sym c.kind.ensures) (c.in-Err.ensures.kinds (is-free given.0 given.1 app given.2 words)) in
    both c.request_at.result _ _ _ c.request_at.ensures.some c.request_at.ensures.request
    (λ some request is. is ∙ refused-request given.0 given.1 app given.2 words c.kind.result has some)
