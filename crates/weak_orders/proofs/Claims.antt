-- The claims on windows. Assumes nothing.
use Rattle.weak_orders.specs.Claims.{Conversions, TablesOfCounts, SymbolsAsBits}
use Rattle.weak_orders.proofs.Bits.{ones-height, different-ones}
use Rattle.weak_orders.proofs.Conversions.{ranks-is_rank, heights-is_height, length-ranks, length-heights, ranks-heights, heights-ranks}
use Rattle.weak_orders.proofs.FormTests.{rank_by_table}
use Rattle.weak_orders.proofs.Tallies.{tally-num}

pub conversions : Conversions
conversions = record {
  ranks_form = ranks-is_rank;
  heights_form = heights-is_height;
  ranks_long = length-ranks;
  heights_long = length-heights;
  ranks-heights = ranks-heights;
  heights-ranks = heights-ranks;
}

pub tables_of_counts : TablesOfCounts
tables_of_counts = record { gives_num = tally-num; rank_form = rank_by_table }

pub symbols_as_bits : SymbolsAsBits
symbols_as_bits = record { ones_below = ones-height; ones-all = different-ones }
