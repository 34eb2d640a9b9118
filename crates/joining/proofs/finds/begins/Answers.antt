use Rattle.std.proofs.Common.{◌≡◌, take, ap, ◌∙◌, arith}
use Rattle.joining.specs.Finding.{told_length}
use Rattle.joining.proofs.Begins.{begins-opened}
use Rattle.joining.proofs.finds.begins.Goals as goal

pub returns : goal.returns
returns c =
    let bs = c.args.bytes.now in
    let all : c.told_len-len.result ≡ told_length bs = omega (arith, c.told_len-len.ensures) in
    c.is_ok.ensures.value
    ∙ begins-opened bs _ c.«open».result (omega (arith, c.told_len-len.ensures)) (ap (λ n. take n bs) all) c.«open».ensures
