use Rattle.promise.proofs.Kept.{all_is_right, days_are_of_form, days_are_whole, nothing_is_lost, seen_is_there}
use Rattle.promise.proofs.Lasts.{days_last}
use Rattle.promise.proofs.Numbers.{days_are_made, days_stay, numbers_are_used_once, numbers_rise}
use Rattle.promise.proofs.Rounds.{all_can_go, half_full_has_room}
use Rattle.promise.proofs.Spares.{aside_is_moved, sweeps_spare}
use Rattle.promise.proofs.Sweeps.{sweeps_are_whole}
use Rattle.promise.proofs.laws.every_mixture_keeps_the_promise.Goals as goal

pub returns : goal.returns
returns c =
    record {
      days = days_are_whole;
      form = days_are_of_form;
      seen = seen_is_there;
      lost = nothing_is_lost;
      right = all_is_right;
      stay = days_stay;
      once = numbers_are_used_once;
      rise = numbers_rise;
      made = days_are_made;
      last = days_last;
      spares = sweeps_spare;
      moves = aside_is_moved;
      half_full = half_full_has_room;
      can_go = all_can_go;
      swept = sweeps_are_whole;
    }
