-- `save` meets its contract: not sound, too short a buffer, or done. Assumes nothing.
use Prim.Native.Nat.{◌<◌, ◌≤◌}
use mathlib.Core.Path.{refl, subst}
use mathlib.Core.Bool.{true, false}
use lib.ListN.{length}
use Rattle.page_describing.proofs.Means.{describe_promise}
use Rattle.kernel.proofs.Sound.{follows_decides}
use Rattle.record.proofs.Saving.{unsound, short, done_save}
use Rattle.record.proofs.save.Goals as goal

pub returns-in_default : goal.returns-in_default
returns-in_default c =
    let a = c.args in
    unsound a.kernel a.buffer.now (follows_decides a.kernel false c.in_default.ensures.sound) _ refl (λ i. record { answer = c.number.ensures i; length = 0 })

pub returns-then-buffer-length : goal.returns-then-buffer-length
returns-then-buffer-length c =
    let a = c.args in
    let tested = follows_decides a.kernel true c.in-Ok.ensures.sound in
    let means = (describe_promise a.kernel.engine c.in-Ok.page c.in-Ok.ensures.ok).1 in
    short a.kernel a.buffer.now tested refl c.in-Ok.page means _ (subst (λ k. length a.buffer.now < k) c.total-length.ensures c.if-buffer-length.true)
    (λ i. record { answer = c.number-then-buffer-length.ensures i; length = 0 })

pub returns : goal.returns
returns c =
    let a = c.args in
    let tested = follows_decides a.kernel true c.in-Ok.ensures.sound in
    let means = (describe_promise a.kernel.engine c.in-Ok.page c.in-Ok.ensures.ok).1 in
    let n = c.total-length.ensures in
    done_save a.kernel a.buffer.now tested refl c.in-Ok.page means _ _ (subst (λ k. k ≤ length a.buffer.now) n c.if-buffer-length.false) (λ i. record { answer = 0; length = n i }) c.write.ensures
