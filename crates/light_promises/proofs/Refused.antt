-- u′ and v′ and the chart's point are refused as x and y are: where there are no sums alike, and where there are by divisors that are 0
-- together.
use Rattle.std.proofs.Common.{◌≡◌, refl, Result, Ok, Err, List, ℕ}
use Rattle.grid.specs.declared.refusals.Refusal.{Refusal}
use Rattle.grid.specs.Check.{◌>>=◌}
use Rattle.grid.specs.Said.{refused_with, RefusedAs}
use Rattle.answers.specs.Sums.{Three}
use Rattle.answers.specs.Worked.{xy_from, uv_from, chart_from}
use Rattle.answers.specs.Said.{said_xy, said_uv, said_chart}
use Rattle.answers.proofs.Values.{uv_refused, chart_refused}
use Rattle.readings.specs.Readings.{sums_of, xy_of, uv_of, chart_of}
use Rattle.light_promises.specs.Lights.{RefusedAlike, ColourRefusals}
use Rattle.panel.specs.Panel.{panel_xy_of, panel_uv_of, panel_chart_of}
use Rattle.panel.specs.Panel.{sums_of as panel_sums_of}

-- whatever comes of the sums
alike :
    (sums : Result Three Refusal) →
    RefusedAlike (said_xy (sums >>= (λ t. xy_from t.x t.y t.z))) (said_uv (sums >>= (λ t. uv_from t.x t.y t.z)))
    (said_chart (sums >>= (λ t. Ok (chart_from t.x t.y t.z))))
alike (Ok t) = record { uv_refused = uv_refused t.x t.y t.z; chart_refused = chart_refused t.x t.y t.z }
alike (Err r) =
    let same : RefusedAs (refused_with r) (refused_with r) = record { same_number = refl; same_place = refl } in
    record { uv_refused = same; chart_refused = same }

pub light_refused : ColourRefusals
unfolding xy_of uv_of chart_of
light_refused o a s xs = alike (sums_of o a s xs)

pub panel_refused :
    (o i a s : ℕ) (rs : List ℕ) →
    RefusedAlike (said_xy (panel_xy_of o i a s rs)) (said_uv (panel_uv_of o i a s rs)) (said_chart (panel_chart_of o i a s rs))
unfolding panel_xy_of panel_uv_of panel_chart_of
panel_refused o i a s rs = alike (panel_sums_of o i a s rs)
