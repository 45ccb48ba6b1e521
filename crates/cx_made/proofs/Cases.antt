-- For each number of pairs all of it computes.
use Rattle.std.proofs.Common.{refl}
use Rattle.cx_text.specs.Words.{is_name}
use Rattle.cx_made.proofs.Closed.{Closed}

pub with_2 : Closed 2
unfolding is_name
with_2 = record {
  lines = λ n. refl;
  fine = refl;
  named = refl;
  watching = refl;
  putting = refl;
  taking = refl;
  apart = λ n. refl;
  main_fits = refl;
  main_says = refl;
  main_once = refl;
  main_ends = refl;
  own_names = refl;
  own_declarations = refl;
  threads = λ n. refl;
  all_bodies = λ n. refl;
}

pub with_3 : Closed 3
unfolding is_name
with_3 = record {
  lines = λ n. refl;
  fine = refl;
  named = refl;
  watching = refl;
  putting = refl;
  taking = refl;
  apart = λ n. refl;
  main_fits = refl;
  main_says = refl;
  main_once = refl;
  main_ends = refl;
  own_names = refl;
  own_declarations = refl;
  threads = λ n. refl;
  all_bodies = λ n. refl;
}

pub with_4 : Closed 4
unfolding is_name
with_4 = record {
  lines = λ n. refl;
  fine = refl;
  named = refl;
  watching = refl;
  putting = refl;
  taking = refl;
  apart = λ n. refl;
  main_fits = refl;
  main_says = refl;
  main_once = refl;
  main_ends = refl;
  own_names = refl;
  own_declarations = refl;
  threads = λ n. refl;
  all_bodies = λ n. refl;
}

pub with_5 : Closed 5
unfolding is_name
with_5 = record {
  lines = λ n. refl;
  fine = refl;
  named = refl;
  watching = refl;
  putting = refl;
  taking = refl;
  apart = λ n. refl;
  main_fits = refl;
  main_says = refl;
  main_once = refl;
  main_ends = refl;
  own_names = refl;
  own_declarations = refl;
  threads = λ n. refl;
  all_bodies = λ n. refl;
}

pub with_6 : Closed 6
unfolding is_name
with_6 = record {
  lines = λ n. refl;
  fine = refl;
  named = refl;
  watching = refl;
  putting = refl;
  taking = refl;
  apart = λ n. refl;
  main_fits = refl;
  main_says = refl;
  main_once = refl;
  main_ends = refl;
  own_names = refl;
  own_declarations = refl;
  threads = λ n. refl;
  all_bodies = λ n. refl;
}

pub with_7 : Closed 7
unfolding is_name
with_7 = record {
  lines = λ n. refl;
  fine = refl;
  named = refl;
  watching = refl;
  putting = refl;
  taking = refl;
  apart = λ n. refl;
  main_fits = refl;
  main_says = refl;
  main_once = refl;
  main_ends = refl;
  own_names = refl;
  own_declarations = refl;
  threads = λ n. refl;
  all_bodies = λ n. refl;
}

pub with_8 : Closed 8
unfolding is_name
with_8 = record {
  lines = λ n. refl;
  fine = refl;
  named = refl;
  watching = refl;
  putting = refl;
  taking = refl;
  apart = λ n. refl;
  main_fits = refl;
  main_says = refl;
  main_once = refl;
  main_ends = refl;
  own_names = refl;
  own_declarations = refl;
  threads = λ n. refl;
  all_bodies = λ n. refl;
}
