use Rattle.std.proofs.Common.{refl}
use Rattle.std.proofs.lemmas.Nat.{mul-le}
use Rattle.code.proofs.plan.Plan.message_len.Goals as goal

pub returns : goal.returns
returns c =
    let p = c.args.self.now in
    record {
      answers = refl;
      bounds = (mul-le 1 1 p.counts.data_count p.counts.row_len p.some_data p.some_symbols, mul-le p.counts.data_count p.counts.row_len 64 128 p.few_data p.few_symbols);
    }
