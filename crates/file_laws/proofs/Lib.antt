mod Steady
mod Closing
mod Programs
mod Images
mod Tables
mod Traces
mod Shorts
