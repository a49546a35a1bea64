-- The three demands and the request W2, as specs/Demands states them, each proved whole. Assumes nothing.
use mathlib.Core.Path.{◌≡◌, refl, ap}
use mathlib.Core.List.{List}
use Prim.Native.Nat.{ℕ}
use native.Mathlib.Omega.{arith}
use lib.ListN.{length}
use Rattle.sheet.specs.Problem.{Action, Statement}
use Rattle.sheet.specs.Format.{sheet_of, refused}
use Rattle.sheet.specs.Faults.{Says}
use Rattle.sheet.proofs.Demands as sheets
use Rattle.sheet.specs.Calls.{Refused, judge_of}
use Rattle.table.specs.declared.Table.{Table}
use Rattle.table.proofs.Demands as tables
use Rattle.table.proofs.laws.answers.CallDemands as tabled
use Rattle.table.proofs.laws.answers.CallTables as returned
use Rattle.table.proofs.laws.steps.PaperWorlds as paper
use Rattle.table.proofs.laws.answers.UnreadSlots as unread
use Rattle.table.specs.declared.TableAnswer.{TableAnswer}
use Rattle.table.specs.PictureCalls.{refusal, picture_of}
use Rattle.plan.specs.Run.{reached, short, stopped}
use Rattle.plan.specs.Calls.{verdict_of, refused_run, refused_search}
use Rattle.plan.specs.Demand3.{SamePlanSheet}
use Rattle.plan.specs.Demands.{MaskDemand, JudgeDemand, StartDemand, StepDemand, PictureDemand, RunDemand, SearchDemand, BackDemand}
use Rattle.plan.specs.Demands.{Demand1, PaperDemand, TableWorlds, RunWorlds, SearchFinds, Demand2, ExchangeDemand, FinalDemand}
use Rattle.plan.specs.Demands.{TwoPlans, Demand3, RequestW2, FaultDemand}
use Rattle.plan.specs.declared.RunAnswer.{RunAnswer}
use Rattle.plan.specs.declared.SearchAnswer.{SearchAnswer}
use Rattle.plan.proofs.laws.runs.RunRefusals as refusals
use Rattle.plan.proofs.laws.runs.RunPlaces as places
use Rattle.plan.proofs.laws.runs.RunDemands as runs
use Rattle.plan.proofs.laws.searches.SearchRefusals as unfound
use Rattle.plan.proofs.laws.searches.CarriedPlans as carried
use Rattle.plan.proofs.laws.searches.SearchDemands as searches
use Rattle.plan.proofs.laws.exchanges.CommutingMoves as commuting
use Rattle.plan.proofs.laws.exchanges.TouchingMoves as touching
use Rattle.plan.proofs.laws.exchanges.ExchangedPlans as exchanged
use Rattle.plan.proofs.laws.exchanges.ExchangeDemands as exchanges
use Rattle.plan.proofs.laws.examples.LampExample as example
use Rattle.plan.proofs.laws.examples.PaperSheet as printed
use Rattle.plan.proofs.laws.examples.TextExamples as text

-- ---- the groups of demand 1
masks : MaskDemand
masks = record { lies_in = sheets.within_iff; no_pair = sheets.consistent_iff; has_true = sheets.meets_iff; world = sheets.state_iff }

judge : (s : List ℕ) → JudgeDemand s
judge s = record {
  accepted = sheets.judge_accepted s;
  says = sheets.accepted_encoding s;
  refused = sheets.judge_refused s;
  numbers = sheets.judge_numbers s;
  on_1 = sheets.judge_1 s;
  on_2 = sheets.judge_2 s;
  on_3 = sheets.judge_3 s;
  on_4 = sheets.judge_4 s;
  on_5 = sheets.judge_5 s;
  on_6 = sheets.judge_6 s;
  on_7 = sheets.judge_7 s;
  longest = sheets.judge_longest s;
  first_decide = sheets.judge_first s;
}

picture_fault : (s : List ℕ) (t : Table) (len k p : ℕ) → sheet_of s ≡ refused k p → (picture_of (sheet_of s) t len).answer ≡ Refused k p
unfolding picture_of refusal
picture_fault s t len k p e = rw e

-- every call refuses with the sheet's fault first
fault_first : (s : List ℕ) (k p : ℕ) → judge_of s ≡ Refused k p → FaultDemand s k p
unfolding refused_run refused_search
fault_first s k p j =
    let e = (sheets.judge_refuses s k p).0 j in
    record {
      start = ap (λ (r : TableAnswer). r.answer) (tables.start_fault s k p e);
      step = λ t m. ap (λ (r : TableAnswer). r.answer) (tables.step_fault s t m k p e);
      picture = λ t len. picture_fault s t len k p e;
      run = λ rows. ap (λ (r : RunAnswer). r.verdict) (refusals.run_fault s rows k p e);
      search = λ limit. ap (λ (r : SearchAnswer). r.kind) (unfound.search_fault s limit k p e);
    }

start : (s : List ℕ) (x : Statement) → Says s x → StartDemand s x
start s x says = record {
  on_20 = tabled.start_20 s x says;
  on_21 = tabled.start_21 s x says;
  accepted = tabled.start_accepted s x says;
  numbers = tabled.start_numbers s x says;
  no_world = tabled.start_world s x says;
  worldless = tabled.start_none s x says;
  returned = returned.start_fits s x says;
}

step : (s : List ℕ) (x : Statement) → Says s x → (t : Table) (m : ℕ) → StepDemand s x t m
step s x says t m = record {
  on_7 = tabled.step_7 s x says t m;
  on_22 = tables.step_22 s x says t m;
  on_24 = tabled.step_24 s x says t m;
  on_25 = tabled.step_25 s x says t m;
  on_21 = tabled.step_21 s x says t m;
  accepted = tabled.step_accepted s x says t m;
  numbers = tabled.step_numbers s x says t m;
  returned = returned.step_fits s x says t m;
}

picture : (s : List ℕ) (x : Statement) → Says s x → (t : Table) → PictureDemand s x t
picture s x says t = record {
  on_22 = tabled.picture_22 s x says t;
  on_21 = tabled.picture_21 s x says t;
  on_23 = tabled.picture_23 s x says t;
  accepted = tables.picture_accepted s x says t;
  numbers = tabled.picture_numbers s x says t;
  primes = tabled.picture_primes s x says t;
}

run : (s : List ℕ) (x : Statement) → Says s x → RunDemand s x
run s x says = record {
  on_23 = refusals.run_few s x says;
  start = refusals.run_start s x says;
  reached = places.run_reached_at s x says;
  short = places.run_short_at s x says;
  stopped = places.run_stopped_at s x says;
  full = places.run_full_at s x says;
  last = places.run_last s x says;
  returned = refusals.run_table_lem s x says;
  row = places.run_row s x says;
  rest = places.run_rest s x says;
}

search : (s : List ℕ) (x : Statement) → Says s x → SearchDemand s x
search s x says = record { on_8 = unfound.search_above s x says; start = unfound.search_start s x says }

back : (s : List ℕ) → BackDemand s
back s = record {
  refused_start = tables.start_back s;
  refused_step = tables.step_back s;
  refused_picture = tables.picture_back s;
  refused_run_lem = λ rows k q e. (refusals.run_back s (length rows) k q e, refusals.run_rows_kept s rows k q e);
  rows_length = places.rows_length s;
  refused_search_lem = unfound.search_back s;
  nothing_found = searches.search_no_plan s;
  eight_bytes = searches.search_bytes s;
  unread = λ t u e. (
    unread.step_unread t u e (sheet_of s),
    unread.picture_unread t u e (sheet_of s),
    unread.buffer_unread t u e
        (sheet_of s),
  );
}

-- ---- the groups of demand 2
equations : PaperDemand
equations = record {
  equation_1 = paper.results_are;
  equation_2 = λ n a ha w l. (paper.step_some n a ha w l, paper.step_none n a ha w l);
}

table_worlds : (s : List ℕ) (x : Statement) → Says s x → TableWorlds s x
table_worlds s x says = record {
  step = returned.step_worlds s x says;
  step_undefined = tabled.step_undefined s x says;
  step_else = tabled.step_else s x says;
  step_least = returned.step_least s x says;
  start = returned.start_worlds s x says;
  start_else = tabled.start_else s x says;
}

run_worlds : (s : List ℕ) (x : Statement) → Says s x → RunWorlds s x
unfolding verdict_of
run_worlds s x says = record {
  reached = λ w st rows h f. runs.run_means s x says rows h f reached (λ k e. let z : ◌≡◌ {A = ℕ} 0 1 = cc in omega arith) (λ m. (w, st));
  short = λ rows h f. runs.run_means s x says rows h f short (λ k e. let z : ◌≡◌ {A = ℕ} 0 1 = cc in omega arith)
      (λ m. let o = m.1 in (o.0, (o.1, o.2)));
  stopped = λ rows h f k N.
      runs.run_means s x says rows h f (stopped k N) (λ i e. let z : ◌≡◌ {A = ℕ} 0 1 = cc in omega arith)
      (λ m. let o = m.lost in (o.0, (o.1, o.2)));
  takes_all = runs.run_takes s x says;
  worlds = runs.run_comes s x says;
}

search_finds : (s : List ℕ) (x : Statement) → Says s x → SearchFinds s x
search_finds s x says = record {
  carried = λ q h. carried.carried x.problem (sheets.statement_proper s x says).problem q h.0 h.1;
  plan_ignored = λ r y. searches.plan_ignored s r x y;
  reached = searches.search_reached s x says;
  nothing = searches.search_none s x says;
  full = searches.search_full s x says;
  full_at_end = searches.full_at_end s x says;
  reached_worlds = searches.reached_worlds s x says;
  full_worlds = searches.full_worlds s x says;
  nothing_worlds = searches.none_worlds s x says;
}

-- ---- the groups of demand 3
exchange : (f : ℕ → Action) → ExchangeDemand f
exchange f = record {
  touching = touching.touching;
  swaps = exchanged.exchange_swaps f;
  stays = exchanged.exchange_stays f;
  beyond = exchanged.exchange_beyond f;
  no_more = λ plan. refl;
  next = λ k ks plan. refl;
}

final : (s : List ℕ) (x : Statement) → Says s x → FinalDemand s x
final s x says = record {
  exchanged = exchanges.exchanged_sheet s x says;
  no_picture = exchanges.final_none s x says;
  written = exchanges.final_written s x says;
}

two_plans : (s₁ s₂ : List ℕ) (x y : Statement) → SamePlanSheet s₁ s₂ x y → TwoPlans s₁ s₂ x y
two_plans s₁ s₂ x y same = record {
  class = λ w st ks e rows₁ rows₂. exchanges.exchange_class s₁ s₂ x y same rows₁ rows₂ w st ks e;
  exchange_pictures = λ w st ks e rows₁ rows₂. exchanges.exchange_pictures s₁ s₂ x y same rows₁ rows₂ w st ks e;
  pictures_worlds = exchanges.pictures_worlds s₁ s₂ x y same;
}

-- ---- the three demands
pub demand_1 : Demand1
demand_1 = record {
  masks = masks;
  judge = judge;
  fault = fault_first;
  start = start;
  step = step;
  picture = picture;
  run = run;
  search = search;
  back = back;
  output = text.paper_output;
}

pub demand_2 : Demand2
demand_2 = record { paper = equations; tables = table_worlds; runs = run_worlds; searches = search_finds }

pub demand_3 : Demand3
demand_3 = record {
  alike = sheets.alike;
  exchange = exchange;
  final = final;
  plans = two_plans;
  met = example.met;
  differ = example.differ;
  met_printed = printed.met;
}

-- ---- the request W2
pub request_w2 : RequestW2
request_w2 = record {
  anywhere = touching.touching_anywhere;
  before = touching.touch_before;
  touching = touching.touching;
  fewer = commuting.touch_fewer;
  lamp = λ f k a b lamp first rest h pa pb ra rb else. exchanged.exchange_swaps f k a b first rest h
      (touching.touch_lamp (f a) (f b) lamp pa pb ra rb else);
  commute = commuting.commute;
  exchange = demand_3;
}
