use Rattle.friendship_laws.proofs.Exchange as exchange
use Rattle.friendship_laws.proofs.laws.exchange_law.Goals as goal

pub returns : goal.returns
returns c =
    record {
      begin = exchange.begin;
      stay = exchange.stay;
      once = exchange.each_once;
      taken = exchange.answers_are_taken;
      names = exchange.names_are_kept;
    }
